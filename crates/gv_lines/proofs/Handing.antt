-- Bytes that pass from a source through a reader.
use Rattle.std.proofs.Common.{◌≡◌, ℕ, ◌+◌, List, [], ◌++◌, Option, Some, None, Bool, true, false, if◌then◌else◌, length, refl, ap, sym, ◌∙◌, arith, append_assoc, append-nil, length-append}
use Rattle.std.proofs.KnownBytes.{Consumes-trans}
use Rattle.std.specs.Io.KnownBytes.{IsAtEnd}
use Rattle.gv_lines.specs.Coming.{coming_in}
use Rattle.gv_lines.specs.Reader.{ReaderState, HandsOut, Relates, room_of}

pub HandsOut-trans : (s t u : ReaderState) (a b c : Option (List ℕ)) (xs ys : List ℕ) → HandsOut s t a b xs → HandsOut t u b c ys → HandsOut s u a c (xs ++ ys)
HandsOut-trans s t u a b c xs ys first second = record {
  piece = first.piece ++ second.piece;
  source = Consumes-trans a b c first.piece second.piece first.source second.source;
  bytes = sym (append_assoc s.held first.piece second.piece) ∙ ap (λ l. l ++ second.piece) first.bytes ∙ append_assoc xs t.held second.piece ∙ ap (λ l. xs ++ l) second.bytes ∙ sym (append_assoc xs ys u.held);
  taken = omega (arith, first.taken, second.taken, length-append first.piece second.piece);
  limit = second.limit ∙ first.limit;
}

-- what is still to be handed out stays where the bytes that were taken are held
module _ (s t : ReaderState) (running : s.ended ≡ false) where
  room-kept : (piece : List ℕ) → s.held ++ piece ≡ t.held → t.taken ≡ s.taken + length piece → t.limit ≡ s.limit → room_of t ≡ room_of s
  room-kept piece bytes taken limit =
      let long = ap length (sym bytes) ∙ length-append s.held piece in
      omega arith

  rest-kept : (piece x y : List ℕ) (ended : Bool) → x ≡ piece ++ y → s.held ++ piece ≡ t.held → (ended ≡ true → y ≡ []) → t.held ++ (if ended then [] else y) ≡ s.held ++ x
  rest-kept piece x y true source bytes end = append-nil t.held ∙ sym bytes ∙ ap (λ l. s.held ++ l) (sym (source ∙ ap (λ l. piece ++ l) (end refl) ∙ append-nil piece))
  rest-kept piece x y false source bytes end = ap (λ l. l ++ y) (sym bytes) ∙ append_assoc s.held piece y ∙ ap (λ l. s.held ++ l) (sym source)

  pub coming-kept : (a b : Option (List ℕ)) → HandsOut s t a b [] → (t.ended ≡ true → IsAtEnd b) → Relates (λ before after. after ≡ before) s a t b
  coming-kept None b moved end = tt
  coming-kept (Some x) None moved end = absurd moved.source
  coming-kept (Some x) (Some y) moved end =
      let room = room-kept moved.piece moved.bytes moved.taken moved.limit in
      let rest = rest-kept moved.piece x y t.ended moved.source moved.bytes end in
      (λ i. coming_in (room i) (rest i)) ∙ ap (λ e. coming_in (room_of s) (s.held ++ (if e then [] else x))) (sym running)

-- the same twice
pub Relates-kept : (s t u : ReaderState) (a b c : Option (List ℕ)) → Relates (λ before after. after ≡ before) s a t b → Relates (λ before after. after ≡ before) t b u c → Relates (λ before after. after ≡ before) s a u c
Relates-kept s t u None b c first second = tt
Relates-kept s t u (Some x) None c first second = absurd first
Relates-kept s t u (Some x) (Some y) None first second = absurd second
Relates-kept s t u (Some x) (Some y) (Some z) first second = second ∙ first
