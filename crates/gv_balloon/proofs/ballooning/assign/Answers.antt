use Rattle.std.proofs.Common.{◌≡◌, ◌++◌, ◌∷◌, [], true, get_or, ap, sym, ◌∙◌, subst, arith, refl}
use Rattle.std.proofs.lemmas.List.Elements.{All-push}
use Rattle.gv_types.specs.declared.ranges.Want.{Want}
use Rattle.gv_types.specs.declared.ranges.Ranges.{Ranges}
use Rattle.gv_entry.specs.Ranges.{InParts}
use Rattle.gv_balloon.specs.Shares.{fits, next_ranges, given_after, AreAmong}
use Rattle.gv_balloon.proofs.Consecutive.{fits-low, fits-high, among-all, apart-all, ranges-next, sum-next}
use Rattle.gv_balloon.proofs.ballooning.assign.Goals as goal

abbrev no_want : Want
no_want = record { low = 0; high = 0 }

pub loop-want-preserved : goal.loop-want-preserved
loop-want-preserved c =
    let kept = c.loop-want.invariant in
    let wants = c.args.wants.now in
    let i = c.loop-want.want-index in
    let given = c.loop-want.given in
    let want = get_or wants i no_want in
    let fit : fits given want ≡ true = sym c.fits.ensures ∙ c.if-not-fits.false in
    let items : c.push.new.self.items ≡ c.loop-want.ranges.items ++ next_ranges given want ∷ [] = c.in_ok-push.ensures.items ∙ ap (λ (r : Ranges). c.loop-want.ranges.items ++ r ∷ []) c.next.ensures.ranges in
    rw (items, c.after-given.ensures) (record {
      ranges = ranges-next given want c.loop-want.ranges.items wants i no_want (omega arith) refl ∙ kept.ranges;
      low = sum-next (λ (want : Want). want.low) wants i no_want given.low _ (omega arith) kept.low;
      high = sum-next (λ (want : Want). want.high) wants i no_want given.high _ (omega arith) kept.high;
      low_part = fits-low given want fit;
      high_part = fits-high given want fit;
      among = among-all given want c.loop-want.ranges.items kept.among (subst (AreAmong (given_after given want)) c.next.ensures.ranges c.next.ensures.among);
      parts = All-push InParts c.loop-want.ranges.items (next_ranges given want) kept.parts (subst InParts c.next.ensures.ranges c.next.ensures.parts);
      apart = apart-all given want c.loop-want.ranges.items fit kept.among kept.apart;
    })
