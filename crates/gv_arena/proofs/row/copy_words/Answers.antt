use Rattle.std.proofs.Common.{◌≡◌, ℕ, ◌+◌, ◌-◌, ◌*◌, ◌≤◌, ◌++◌, List, length, take, drop, sym, ap, ◌∙◌, subst, arith, length-drop}
use Rattle.std.proofs.lemmas.List.{drop-drop, length-take-le}
use Rattle.gv_arena.specs.Rows.{bytes_of, AreWords, IsCopied}
use Rattle.gv_arena.proofs.Overwriting.{span_copied, span_words}
use Rattle.gv_arena.proofs.row.copy_words.Goals as goal

-- the target has the words of the source in place of as many of its own
pub returns : goal.returns
returns c =
    let source = c.args.source.now in
    let old = c.args.target.now in
    let from = c.args.from in
    let to = c.args.to in
    let n = c.args.count in
    let piece = take n (drop from source) in
    let inside : from + n ≤ length source = omega (arith, c.told-source, c.requires.from) in
    let room : to + n ≤ length old = omega (arith, c.told-target, c.requires.to) in
    let read : from + n - from ≡ n = omega arith in
    let written : to + n - to ≡ n = omega arith in
    let long : length piece ≡ n = length-take-le n (drop from source) (omega (arith, length-drop from source)) in
    let end : to + (to + n - to) ≡ to + length piece = omega (arith, long) in
    let mid : c.copy_from_slice.new.self ≡ piece = c.copy_from_slice.ensures.after ∙ ap (λ (m : ℕ). take m (drop from source)) read in
    let new = ap (λ (ys : List ℕ). take to old ++ (ys ++ drop (to + n - to) (drop to old))) mid
    ∙ ap (λ (ys : List ℕ). take to old ++ (piece ++ ys)) (drop-drop (to + n - to) to old ∙ ap (λ (m : ℕ). drop m old) end) in
    record {
      copied = subst (λ (ws : List ℕ). IsCopied (bytes_of source) (bytes_of old) (bytes_of ws) (from * 8) (to * 8) (n * 8)) (sym new) (span_copied source old from to n inside room);
      words = subst AreWords (sym new) (span_words source old from to n inside room c.fits-source c.fits-target);
    }
