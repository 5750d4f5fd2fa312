-- The device determines what is left, but for the addresses of privileged batches.
use Rattle.std.proofs.Common.{◌≡◌, ℕ, suc, zero, ◌+◌, ◌*◌, ◌%◌, ◌<◌, ◌≤◌, Bool, true, false, cond, eqb, List, [], ◌∷◌, ◌++◌, length, get_or, Option, None, Some, refl, ap, sym, subst, ◌∙◌, arith}
use Rattle.std.specs.List.{concat}
use Rattle.std.specs.Bool.{MatchBool}
use Rattle.std.proofs.lemmas.List.{append-nil, ext_get_or}
use Rattle.std.proofs.lemmas.Bool.Decides.{nat_tests}
use Rattle.gv_ctx.specs.declared.saved.Batch.{Batch}
use Rattle.gv_cmd.specs.Allowed.{may_stand}
use Rattle.gv_cmd.specs.Table.{length_of, kind_of, read_length}
use Rattle.gv_cmd.specs.Command.{IsCommand}
use Rattle.gv_cmd.specs.declared.kind.Kind.{Kind}
use Rattle.gv_cmd.specs.declared.kind.Kind.TheVariants.{BatchEnd, BatchStart}
use Rattle.gv_cmd.specs.declared.stands.Stands.{Stands}
use Rattle.gv_cmd.specs.declared.stands.Stands.TheVariants.{Ring, Privileged, Live, Second}
use Rattle.gv_cmd.proofs.Lengths.{IsCommand-length}
use Rattle.gv_gpu.specs.Device.{Device, Loaded}
use Rattle.gv_gpu.specs.Physical.{dword_at}
use Rattle.gv_fetch.specs.Items.{Items, none, command, batch, inside, is_fetched_start, is_end, MayAllStand}
use Rattle.gv_fetch.specs.Fetch.{dwords, by_kind}
use Rattle.gv_fetch.specs.Items.{start_at}
use Rattle.gv_scan.specs.Layout.{Layout, Begins, Started, Copies}
use Rattle.gv_fetch.specs.Left.{Level, Fetched, At, Left, live_command, LevelMayStand, IsLeft}
use Rattle.gv_fetch.proofs.Readdressed.{SameStart, start_copied}
use Rattle.gv_fetch.proofs.Reading.{length-dwords, get-dwords}
use Rattle.gv_sring.specs.Copy.{HasCopy, Copied}
use Rattle.gv_place.specs.Place.{LevelAt, StandsFor as Holding}
use Rattle.gv_fetch.specs.Items.{depth}
use Rattle.gv_fetch.specs.Laws.{most_commands}
use Rattle.gv_place.specs.Seen.{batch_seen, ring_seen, level_seen, left_seen, LevelIsShort, IsShort}
use Rattle.gv_place.proofs.Reading.{begins-past, ends-within, dword-here}

-- a command that stands at an address
command-seen : (read : ℕ → ℕ) (at : ℕ) (c : List ℕ) → IsCommand c → ((k : ℕ) → k < length c → read (at + 4 * k) ≡ get_or c k 0) → live_command read at ≡ c
command-seen read at c good each =
    let some = (IsCommand-length c good).0 in
    let first : 0 < length c = omega arith in
    let here : at + 4 * 0 ≡ at = omega arith in
    let header : read at ≡ get_or c 0 0 = ap read (sym here) ∙ each 0 first in
    let count : read_length (length_of (read at)) ≡ length c = ap (λ h. read_length (length_of h)) header ∙ ap read_length good.length in
    ap (dwords read at) count
    ∙ ext_get_or 0 (dwords read at (length c)) c (length-dwords read at (length c))
    (λ k h. let l = length-dwords read at (length c) in let less : k < length c = omega arith in get-dwords read at (length c) k less ∙ each k less)

goes-on : (kind : Option Kind) → is_end kind ≡ false → is_fetched_start kind ≡ false → {A : Type 0} (starts : ℕ → A) (ends goes : A) → by_kind kind starts ends goes ≡ goes
goes-on (Some BatchEnd) is not starts ends goes = cc
goes-on (Some (BatchStart false second at)) is not starts ends goes = cc
goes-on kind is not starts ends goes = refl

comes-to-end : (kind : Option Kind) → is_end kind ≡ true → {A : Type 0} (starts : ℕ → A) (ends goes : A) → by_kind kind starts ends goes ≡ ends
comes-to-end (Some BatchEnd) is starts ends goes = refl
comes-to-end kind is starts ends goes = cc

module _ (d : Device) (guest image : ℕ) (p : Layout) (fours : p.base % 4 ≡ 0) (engine : ℕ) (holds : HasCopy d guest image p.base (concat p.batches)) where
  abbrev read : ℕ → ℕ
  read at = dword_at d 0 true at

  here : (at : ℕ) (c : List ℕ) (rest : List (List ℕ)) → Begins p.base p.batches at (c ∷ rest) → IsCommand c → live_command read at ≡ c
  here at c rest b good = command-seen read at c good (λ k h. dword-here p.base p.batches at c rest b d guest image holds k h)

  abbrev step : ℕ → ℕ → List ℕ → Items
  step n at c = by_kind (kind_of c) (λ to. batch (start_at c 0) (batch_seen n read to) (batch_seen n read (at + 4 * length c))) (command c none) (command c (batch_seen n read (at + 4 * length c)))

  aligned : (n to : ℕ) → to ≡ p.base + 4 * n → to % 4 ≡ 0
  aligned n to e = omega arith

  by-end : (n at : ℕ) (ws : List ℕ) (more : Items) (b : Bool) → is_end (kind_of ws) ≡ b → is_fetched_start (kind_of ws) ≡ false → MatchBool b (more ≡ none) (batch_seen n read (at + 4 * length ws) ≡ more) → step n at ws ≡ command ws more
  by-end n at ws more true is not last = comes-to-end (kind_of ws) is _ _ _ ∙ ap (command ws) (sym last)
  by-end n at ws more false is not rest = goes-on (kind_of ws) is not _ _ _ ∙ ap (command ws) rest

  behind-match : (stands : Stands) (more : Items) (b : Bool) (Q : Type 0) → MatchBool b (more ≡ none) (MayAllStand stands engine more) → (MayAllStand stands engine more → Q) → MatchBool b (more ≡ none) Q
  behind-match stands more true Q last go = last
  behind-match stands more false Q rest go = go rest

  started-seen : (n at : ℕ) (ws c : List ℕ) (items more : Items) (s : Started p.base p.batches ws c (λ r a. Copies p.base p.batches items r a)) → SameStart ws (start_at ws s.to) s.to → batch_seen n read s.to ≡ items → batch_seen n read (at + 4 * length c) ≡ more
      → step n at c ≡ batch (start_at ws 0) items more
  started-seen n at ws c items more s same inner rest =
      let kind : kind_of c ≡ Some (BatchStart false same.second s.to) = ap kind_of s.copy ∙ same.copy in
      ap (λ k. by_kind k (λ to. batch (start_at c 0) (batch_seen n read to) (batch_seen n read (at + 4 * length c))) (command c none) (command c (batch_seen n read (at + 4 * length c)))) kind
      ∙ ap (λ x. batch (start_at x 0) (batch_seen n read s.to) (batch_seen n read (at + 4 * length c))) s.copy
      ∙ ap (λ i. batch (start_at ws 0) i (batch_seen n read (at + 4 * length c))) inner
      ∙ ap (batch (start_at ws 0) items) rest

  pub batch-seen : (n at : ℕ) (stands : Stands) (items : Items) (rest behind : List (List ℕ)) → depth items ≤ n → Begins p.base p.batches at rest → Copies p.base p.batches items rest behind → MayAllStand stands engine items → (stands ≡ Ring → ⊥) → batch_seen n read at ≡ items
  unfolding batch_seen
  batch-seen n at stands none rest behind enough begins copies may batched = absurd (batched may)
  batch-seen zero at stands (command ws more) rest behind enough begins copies may batched = absurd (omega arith)
  batch-seen zero at stands (batch ws items more) rest behind enough begins copies may batched = absurd (omega arith)
  batch-seen (suc n) at stands (command ws more) [] behind enough begins copies may batched = absurd copies
  batch-seen (suc n) at stands (command ws more) (c ∷ rest) behind enough begins copies may batched =
      let good : IsCommand c = subst IsCommand (sym copies.0) may.0.command in
      let fewer : depth more ≤ n = omega arith in
      ap (step n at) (here at c rest begins good)
      ∙ ap (step n at) copies.0
      ∙ by-end n at ws more (is_end (kind_of ws)) refl may.1
      (behind-match stands more (is_end (kind_of ws)) (batch_seen n read (at + 4 * length ws) ≡ more) may.2 (λ all.
      ap (λ x. batch_seen n read (at + 4 * length x)) (sym copies.0)
      ∙ batch-seen n (at + 4 * length c) stands more rest behind fewer (begins-past p.base p.batches at c rest begins) copies.1 all batched))
  batch-seen (suc n) at stands (batch ws items more) [] behind enough begins copies may batched = absurd copies
  batch-seen (suc n) at stands (batch ws items more) (c ∷ rest) behind enough begins copies may batched =
      let s = copies.0 in
      let same = start_copied ws s.to (aligned (length (concat s.begins.before)) s.to s.begins.count) may.0.command may.1 in
      let good : IsCommand c = subst IsCommand (sym s.copy) same.command in
      let inner_fewer : depth items ≤ n = omega arith in
      let fewer : depth more ≤ n = omega arith in
      ap (step n at) (here at c rest begins good)
      ∙ started-seen n at ws c items more s same
      (batch-seen n s.to (inside stands) items s.rest s.behind inner_fewer s.begins s.inside may.2 (inside-batch stands))
      (batch-seen n (at + 4 * length c) stands more rest behind fewer (begins-past p.base p.batches at c rest begins) copies.1 may.3 batched)
      ∙ ap (λ x. batch x items more) (sym may.4)
    where
      inside-batch : (stands : Stands) → inside stands ≡ Ring → ⊥
      inside-batch Ring is = cc
      inside-batch Privileged is = cc
      inside-batch Live is = cc
      inside-batch Second is = cc

no-end : (kind : Option Kind) (engine : ℕ) → may_stand kind Ring engine ≡ true → is_end kind ≡ false
no-end (Some BatchEnd) engine may = cc
no-end kind engine may = refl

module _ (d : Device) (guest image : ℕ) (p : Layout) (fours : p.base % 4 ≡ 0) (engine start : ℕ) (copied : Copied d guest image p start) where
  abbrev dword : ℕ → ℕ
  dword at = dword_at d 0 true at

  abbrev end : ℕ
  end = start + 4 * length (concat p.ring)

  abbrev goes : ℕ → ℕ → List ℕ → Items
  goes n at c = by_kind (kind_of c) (λ to. batch (start_at c 0) (batch_seen n dword to) (ring_seen n dword (start + at + 4 * length c) end)) none (command c (ring_seen n dword (start + at + 4 * length c) end))

  abbrev unless : Bool → Items → Items
  unless ended items = cond ended none items

  moved : (at : ℕ) (rest : List (List ℕ)) → Begins 0 p.ring at rest → Begins start p.ring (start + at) rest
  moved at rest b = record { before = b.before; split = b.split; count = let n = b.count in omega arith }

  not-yet : (at : ℕ) (c : List ℕ) (rest : List (List ℕ)) → Begins 0 p.ring at (c ∷ rest) → IsCommand c → eqb (start + at) end ≡ false
  not-yet at c rest b good =
      let within = ends-within 0 p.ring at c rest b in
      let some = (IsCommand-length c good).0 in
      differs (start + at) end (omega arith)
    where
      differs : (x y : ℕ) → x < y → eqb x y ≡ false
      differs x y h = grind (arith, nat_tests)

  at-end : (at : ℕ) (rest : List (List ℕ)) → Begins 0 p.ring at rest → rest ≡ [] → eqb (start + at) end ≡ true
  at-end at rest b none_left =
      let all : p.ring ≡ b.before = b.split ∙ ap (λ xs. b.before ++ xs) none_left ∙ append-nil b.before in
      let n = b.count in
      let same : length (concat p.ring) ≡ length (concat b.before) = ap (λ xs. length (concat xs)) all in
      equals (start + at) end (omega arith)
    where
      equals : (x y : ℕ) → x ≡ y → eqb x y ≡ true
      equals x y h = grind (arith, nat_tests)

  there : (at : ℕ) (c : List ℕ) (rest : List (List ℕ)) → Begins 0 p.ring at (c ∷ rest) → IsCommand c → live_command dword (start + at) ≡ c
  there at c rest b good = command-seen dword (start + at) c good (λ k h. dword-here start p.ring (start + at) c rest (moved at (c ∷ rest) b) d guest image copied.ring k h)

  on : (at n : ℕ) (c : List ℕ) → ring_seen n dword (start + (at + 4 * length c)) end ≡ ring_seen n dword (start + at + 4 * length c) end
  on at n c = let e : start + (at + 4 * length c) ≡ start + at + 4 * length c = omega arith in ap (λ a. ring_seen n dword a end) e

  pub ring-seen : (n at : ℕ) (items : Items) (rest : List (List ℕ)) → depth items ≤ n → Begins 0 p.ring at rest → Copies p.base p.batches items rest [] → MayAllStand Ring engine items → ring_seen n dword (start + at) end ≡ items
  unfolding ring_seen
  ring-seen zero at none rest enough begins copies may = refl
  ring-seen (suc n) at none rest enough begins copies may = ap (λ b. unless b (goes n at (live_command dword (start + at)))) (at-end at rest begins copies)
  ring-seen zero at (command ws more) rest enough begins copies may = absurd (omega arith)
  ring-seen zero at (batch ws items more) rest enough begins copies may = absurd (omega arith)
  ring-seen (suc n) at (command ws more) [] enough begins copies may = absurd copies
  ring-seen (suc n) at (command ws more) (c ∷ rest) enough begins copies may =
      let good : IsCommand c = subst IsCommand (sym copies.0) may.0.command in
      let fewer : depth more ≤ n = omega arith in
      let not_end = no-end (kind_of ws) engine may.0.allowed in
      let all : MayAllStand Ring engine more = (let P : Bool → Type 0 = λ b. MatchBool b (more ≡ none) (MayAllStand Ring engine more) in subst P not_end may.2) in
      ap (λ b. unless b (goes n at (live_command dword (start + at)))) (not-yet at c rest begins good)
      ∙ ap (goes n at) (there at c rest begins good ∙ copies.0)
      ∙ goes-on (kind_of ws) not_end may.1 _ _ _
      ∙ ap (λ x. command ws (ring_seen n dword (start + at + 4 * length x) end)) (sym copies.0)
      ∙ ap (command ws) (sym (on at n c) ∙ ring-seen n (at + 4 * length c) more rest fewer (begins-past 0 p.ring at c rest begins) copies.1 all)
  ring-seen (suc n) at (batch ws items more) [] enough begins copies may = absurd copies
  ring-seen (suc n) at (batch ws items more) (c ∷ rest) enough begins copies may =
      let s = copies.0 in
      let same = start_copied ws s.to (aligned d guest image p fours engine copied.batches (length (concat s.begins.before)) s.to s.begins.count) may.0.command may.1 in
      let good : IsCommand c = subst IsCommand (sym s.copy) same.command in
      let inner_fewer : depth items ≤ n = omega arith in
      let fewer : depth more ≤ n = omega arith in
      let kind : kind_of c ≡ Some (BatchStart false same.second s.to) = ap kind_of s.copy ∙ same.copy in
      ap (λ b. unless b (goes n at (live_command dword (start + at)))) (not-yet at c rest begins good)
      ∙ ap (goes n at) (there at c rest begins good)
      ∙ ap (λ k. by_kind k (λ to. batch (start_at c 0) (batch_seen n dword to) (ring_seen n dword (start + at + 4 * length c) end)) none (command c (ring_seen n dword (start + at + 4 * length c) end))) kind
      ∙ ap (λ x. batch (start_at x 0) (batch_seen n dword s.to) (ring_seen n dword (start + at + 4 * length c) end)) s.copy
      ∙ ap (λ i. batch (start_at ws 0) i (ring_seen n dword (start + at + 4 * length c) end))
      (batch-seen d guest image p fours engine copied.batches n s.to Privileged items s.rest s.behind inner_fewer s.begins s.inside may.2 (λ is. cc))
      ∙ ap (batch (start_at ws 0) items) (sym (on at n c) ∙ ring-seen n (at + 4 * length c) more rest fewer (begins-past 0 p.ring at c rest begins) copies.1 may.3)
      ∙ ap (λ x. batch x items more) (sym may.4)

  level-seen : (stands : Stands) → (stands ≡ Ring → ⊥) → (b : Option Batch) (s : Option Level) → LevelAt p b s → LevelMayStand stands engine s → LevelIsShort s → level_seen dword b ≡ s
  level-seen stands batched None None at may short = refl
  level-seen stands batched None (Some level) at may short = absurd at
  level-seen stands batched (Some b) None at may short = absurd at
  level-seen stands batched (Some b) (Some (Fetched items)) at may short =
      ap (λ v. cond v (Some (At b.at)) (Some (Fetched (batch_seen most_commands dword b.at)))) at.0
      ∙ ap (λ i. Some (Fetched i)) (batch-seen d guest image p fours engine copied.batches most_commands b.at stands items at.1.rest at.1.behind short at.1.begins at.1.copies may batched)
  level-seen stands batched (Some b) (Some (At a)) at may short =
      ap (λ v. cond v (Some (At b.at)) (Some (Fetched (batch_seen most_commands dword b.at)))) at.0 ∙ ap (λ n. Some (At n)) at.1

-- The device and the loaded context determine what is left.
pub left-seen : (d : Device) (image : ℕ) (p : Layout) (l : Loaded) (engine : ℕ) (w : Left) → Holding d image p l w → IsLeft engine w → IsShort w → left_seen d l ≡ w
left-seen d image p l engine w stands form short =
    let fours = stands.copied.base_aligned in
    let r = stands.place.ring in
    let ring : (left_seen d l).ring ≡ w.ring =
    ap (λ t. ring_seen most_commands (dword_at d 0 true) (l.ring_start + l.place.ring) (l.ring_start + t)) stands.tail
    ∙ ring-seen d l.owner image p fours engine l.ring_start stands.copied most_commands l.place.ring w.ring r.rest short.ring r.begins r.copies form.ring in
    let first = level-seen d l.owner image p fours engine l.ring_start stands.copied Privileged (λ is. cc) l.place.first w.first stands.place.first form.first short.first in
    let second = level-seen d l.owner image p fours engine l.ring_start stands.copied Second (λ is. cc) l.place.second w.second stands.place.second form.second short.second in
    λ i. record { ring = ring i; first = first i; second = second i }
