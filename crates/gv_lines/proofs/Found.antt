-- What is found among the bytes that are held.
use Rattle.std.proofs.Common.{◌≡◌, ℕ, ◌+◌, ◌-◌, ◌<◌, ◌≤◌, Bool, true, false, not, ◌&&◌, inl, inr, List, [], ◌∷◌, ◌++◌, Option, Some, None, length, take, drop, refl, ap, sym, ◌∙◌, arith, if◌then◌else◌, nat_lt, subst, append_assoc, get_or, length-take, length-drop, IfSome}
use Rattle.std.specs.List.{position_or_len}
use Rattle.std.proofs.lemmas.Bool.{cond_both, cases_lt, ltb-true, ltb-false, and_parts, and_from, both_ways, lt-ltb, le-ltb, eqb-true}
use Rattle.std.proofs.lemmas.List.{take-append-drop, take-take, take_all, drop_all, drop_more, get_or-take}
use Rattle.std.proofs.lemmas.List.Folds.{list_any_none}
use Rattle.std.proofs.lemmas.List.Sums.{prefix_len-le-length, passes_at_first, fails_before_first}
use Rattle.gv_text.specs.Script.{is_line_feed, is_too_long, lines_of}
use Rattle.gv_lines.specs.declared.first.First.{First}
use Rattle.gv_lines.specs.declared.first.First.TheVariants.{Line, LastLine, LongLine, Nothing}
use Rattle.gv_lines.specs.declared.next.Next.{Next}
use Rattle.gv_lines.specs.declared.next.Next.TheVariants as next
use Rattle.gv_lines.specs.Coming.{coming_in, onto_coming, nothing_coming}
use Rattle.gv_lines.specs.First.{first_at, first_of}
use Rattle.gv_lines.specs.Reader.{ReaderState, IsWithin, Relates, HandsOut, TellsNext, IsOneLine, bytes_of, coming, room_of, has_line_feed, next_by, after_by, next_in, after_next}
use Rattle.gv_lines.proofs.Lines.{lines_of-none}
use Rattle.gv_lines.proofs.ComingIn.{coming_in-empty, line-coming, long-coming, past-coming, last-coming}

-- by where the first line feed stands
first-cases : (P : First → Type 0) (end count : ℕ) (ended : Bool)
    → (256 < end → P LongLine)
    → (end ≤ 256 → end < count → P (Line end))
    → (end ≤ 256 → count ≤ end → ended ≡ true → 0 < end → P (LastLine end))
    → (end ≤ 256 → count ≤ end → (ended ≡ true → end ≡ 0) → P Nothing)
    → P (first_at end ended count)
first-cases P end count ended long line last nothing =
    cond_both (nat_lt 256 end) LongLine (if nat_lt end count then Line end else (if ended && nat_lt 0 end then LastLine end else Nothing)) P
    (λ past. long (ltb-true 256 end past))
    (λ short. cond_both (nat_lt end count) (Line end) (if ended && nat_lt 0 end then LastLine end else Nothing) P
    (λ inside. line (ltb-false 256 end short) (ltb-true end count inside))
    (λ whole. cond_both (ended && nat_lt 0 end) (LastLine end) Nothing P
    (λ is. let parts = and_parts ended (nat_lt 0 end) is in last (ltb-false 256 end short) (ltb-false end count whole) parts.0 (ltb-true 0 end parts.1))
    (λ none. nothing (ltb-false 256 end short) (ltb-false end count whole) (λ is. zero_end is none))))
  where
    zero_end : ended ≡ true → (ended && nat_lt 0 end) ≡ false → end ≡ 0
    zero_end is none = elim (cases_lt 0 end) [ inl some ↦ absurd (both_ways (ended && nat_lt 0 end) none (and_from ended (nat_lt 0 end) is (lt-ltb 0 end some))) | inr zero ↦ omega arith ]

module _ (s : ReaderState) (within : IsWithin s) where
  visible : List ℕ
  visible = take (room_of s) s.held

  at : ℕ
  at = position_or_len is_line_feed visible

  -- at the source's end all bytes that are held are within the limit
  all_visible : s.taken ≤ s.limit → visible ≡ s.held
  unfolding visible
  all_visible short = take_all (room_of s) s.held (omega (arith, within.held))

  module _ (x : List ℕ) where
    Says : First → Type 0
    Says f = IfSome (next_by f s) (λ n. TellsNext n (coming s x) (after_by f s).line (coming (after_by f s) x))

    more : List ℕ
    more = if s.ended then [] else x

    says_line : at ≤ 256 → at < length visible → Says (Line at)
    unfolding Says visible at more
    says_line short inside =
        let p = at in
        let rest = drop (p + 1) s.held in
        let room : room_of s - (p + 1) ≡ s.limit + length rest - s.taken = simp length-drop (omega (arith, length-take {A = ℕ})) in (
          line-coming (room_of s) s.held more p refl inside ∙ ap (λ r. onto_coming (take p s.held) (coming_in r (rest ++ more))) room,
          omega (arith, length-take {A = ℕ}),
        )

    says_last : at ≤ 256 → length visible ≤ at → s.ended ≡ true → 0 < at → Says (LastLine at)
    unfolding Says visible at more
    says_last short plain ended some =
        let p = at in
        let held = s.held in
        let all = all_visible (within.ended ended) in
        let at_most = prefix_len-le-length (λ b. not (is_line_feed b)) visible in
        let long : length held ≤ p = subst (λ v. length v ≤ p) all plain in
        let some_held : 0 < length held = subst (λ v. 0 < length v) all (omega arith) in
        let plain_held : length held ≤ position_or_len is_line_feed held = subst (λ v. length v ≤ position_or_len is_line_feed v) all plain in
        let whole : take p held ≡ held = take_all p held long in
        let none : drop (p + 0) held ≡ [] = drop_all (p + 0) held (omega arith) in
        let t = after_by (LastLine p) s in (
          ap (λ e. coming_in (room_of s) (held ++ (if e then [] else x))) ended
              ∙ last-coming (room_of s) held (omega (arith, within.held, within.ended ended)) plain_held some_held
              ∙ ap (λ l. onto_coming l (nothing_coming true)) (sym whole),
          omega (arith, length-take {A = ℕ}),
          ap (λ e. coming_in (room_of t) (drop (p + 0) held ++ (if e then [] else x))) ended
              ∙ ap (λ l. coming_in (room_of t) (l ++ [])) none
              ∙ coming_in-empty (room_of t),
        )

    says_long : 256 < at → Says LongLine
    unfolding Says visible at more
    says_long past = (long-coming (room_of s) s.held more past, refl)

    says_nothing : at ≤ 256 → length visible ≤ at → (s.ended ≡ true → at ≡ 0) → Says Nothing
    unfolding Says visible at more
    says_nothing short plain none =
        cond_both (nat_lt s.limit s.taken) (Some next.PastLimit) (if s.ended then Some next.End else None) (λ o. IfSome o (λ n. TellsNext n (coming s x) s.line (coming s x)))
        (λ past. (past-coming (room_of s) s.held more (omega (arith, within.handed, ltb-true s.limit s.taken past)) plain (omega arith), refl))
        (λ inside. cond_both s.ended (Some next.End) None (λ o. IfSome o (λ n. TellsNext n (coming s x) s.line (coming s x)))
        (λ ended.
        let all = all_visible (within.ended ended) in
        let empty : s.held ≡ [] = sym (take_all 0 s.held (subst (λ v. length v ≤ 0) all (omega (arith, none ended)))) in
        (ap (λ e. coming_in (room_of s) (s.held ++ (if e then [] else x))) ended ∙ ap (λ l. coming_in (room_of s) (l ++ [])) empty ∙ coming_in-empty (room_of s), refl))
        (λ going. tt))

    says : Says (first_of s.ended visible)
    unfolding visible at
    says = first-cases Says at (length visible) s.ended says_long says_line says_last says_nothing

    pub tells-found : (n : Next) → Some n ≡ next_in s → TellsNext n (coming s x) (after_next s).line (coming (after_next s) x)
    unfolding Says visible at
    tells-found n found = subst (λ o. IfSome o (λ n. TellsNext n (coming s x) (after_next s).line (coming (after_next s) x))) (sym found) says

  -- The bytes that are handed out come off the front, and nothing else changes.
  Gives : First → Type 0
  Gives f = IfSome (next_by f s) (λ n. let t = after_by f s in (s.held ≡ bytes_of n t.line ++ t.held) × (t.taken ≡ s.taken) × (t.limit ≡ s.limit))

  gives_line : at < length visible → Gives (Line at)
  unfolding Gives visible at
  gives_line inside =
      let p = at in
      let held = s.held in
      let there : p < length held = omega (arith, length-take {A = ℕ}) in
      let line_feed : get_or held p 0 ≡ 10 =
      sym (get_or-take (room_of s) held p 0 (omega (arith, length-take {A = ℕ}))) ∙ eqb-true (get_or visible p 0) 10 (passes_at_first is_line_feed visible 0 inside) in (
        sym (take-append-drop p held) ∙ ap (λ l. take p held ++ l) (drop_more held p 0 there ∙ ap (λ b. b ∷ drop (p + 1) held) line_feed)
            ∙ sym (append_assoc (take p held) (10 ∷ []) (drop (p + 1) held)),
        refl,
        refl,
      )

  gives_last : Gives (LastLine at)
  unfolding Gives
  gives_last =
      let same : at + 0 ≡ at = omega arith in
      (sym (take-append-drop at s.held) ∙ ap (λ n. take at s.held ++ drop n s.held) (sym same), refl, refl)

  gives_nothing : Gives Nothing
  unfolding Gives
  gives_nothing =
      let P : Option Next → Type 0 = λ o. IfSome o (λ n. (s.held ≡ bytes_of n s.line ++ s.held) × (s.taken ≡ s.taken) × (s.limit ≡ s.limit)) in
      cond_both (nat_lt s.limit s.taken) (Some next.PastLimit) (if s.ended then Some next.End else None) P
      (λ past. (refl, refl, refl))
      (λ inside. cond_both s.ended (Some next.End) None P (λ ended. (refl, refl, refl)) (λ going. tt))

  gives_long : Gives LongLine
  unfolding Gives
  gives_long = (refl, refl, refl)

  gives : Gives (first_of s.ended visible)
  unfolding visible at
  gives = first-cases Gives at (length visible) s.ended (λ past. gives_long) (λ short inside. gives_line inside) (λ short plain ended some. gives_last) (λ short plain none. gives_nothing)

  pub gives-found : (n : Next) → Some n ≡ next_in s → let t = after_next s in (s.held ≡ bytes_of n t.line ++ t.held) × (t.taken ≡ s.taken) × (t.limit ≡ s.limit)
  unfolding Gives visible at
  gives-found n found = subst (λ o. IfSome o (λ n. let t = after_next s in (s.held ≡ bytes_of n t.line ++ t.held) × (t.taken ≡ s.taken) × (t.limit ≡ s.limit))) (sym found) gives

  -- a line that is handed out holds no line feed
  Plain : First → Type 0
  Plain f = IfSome (next_by f s) (λ n. IsOneLine n (after_by f s).line)

  plain_line : at < length visible → Plain (Line at)
  unfolding Plain visible at
  plain_line inside =
      let p = at in
      let front : take p visible ≡ take p s.held = take-take p (room_of s) s.held (omega (arith, length-take {A = ℕ})) in
      subst (λ l. has_line_feed l ≡ false) front
      (list_any_none is_line_feed (take p visible) (λ k d below.
      let before : k < p = omega (arith, length-take {A = ℕ}) in
      ap is_line_feed (get_or-take p visible k d before) ∙ fails_before_first is_line_feed visible k d before))

  plain_nothing : Plain Nothing
  unfolding Plain
  plain_nothing =
      let P : Option Next → Type 0 = λ o. IfSome o (λ n. IsOneLine n s.line) in
      cond_both (nat_lt s.limit s.taken) (Some next.PastLimit) (if s.ended then Some next.End else None) P
      (λ past. tt)
      (λ inside. cond_both s.ended (Some next.End) None P (λ ended. tt) (λ going. tt))

  plain_last : Plain (LastLine at)
  unfolding Plain
  plain_last = tt

  plain_long : Plain LongLine
  unfolding Plain
  plain_long = tt

  plain : Plain (first_of s.ended visible)
  unfolding visible at
  plain = first-cases Plain at (length visible) s.ended (λ past. plain_long) (λ short inside. plain_line inside) (λ short whole ended some. plain_last) (λ short whole none. plain_nothing)

  pub one_line-found : (n : Next) → Some n ≡ next_in s → IsOneLine n (after_next s).line
  unfolding Plain visible at
  one_line-found n found = subst (λ o. IfSome o (λ n. IsOneLine n (after_next s).line)) (sym found) plain

  -- where nothing is found, no line is held
  Empty : First → Type 0
  Empty f = next_by f s ≡ None → lines_of is_too_long s.held ≡ []

  empty_nothing : at ≤ 256 → length visible ≤ at → Empty Nothing
  unfolding Empty visible at
  empty_nothing short whole =
      cond_both (nat_lt s.limit s.taken) (Some next.PastLimit) (if s.ended then Some next.End else None) (λ o. o ≡ None → lines_of is_too_long s.held ≡ [])
      (λ past found. cc)
      (λ inside found.
      let all = all_visible (ltb-false s.limit s.taken inside) in
      let whole_held : length s.held ≤ position_or_len is_line_feed s.held = subst (λ v. length v ≤ position_or_len is_line_feed v) all whole in
      let short_held : length s.held ≤ 256 = subst (λ v. length v ≤ 256) all (omega arith) in
      lines_of-none is_too_long s.held whole_held (le-ltb 256 (length s.held) short_held))

  empty : Empty (first_of s.ended visible)
  unfolding Empty visible at
  empty = first-cases Empty at (length visible) s.ended (λ past found. cc) (λ short inside found. cc) (λ short whole ended some found. cc) (λ short whole none. empty_nothing short whole)

  pub empty-found : next_in s ≡ None → lines_of is_too_long s.held ≡ []
  unfolding Empty visible at
  empty-found found = empty found

-- the same behind the reads that were needed
module _ (s t u : ReaderState) (a b : Option (List ℕ)) (n : Next) (within : IsWithin t) (found : Some n ≡ next_in t) (after : u ≡ after_next t) where
  pub tells-known : Relates (λ before after. after ≡ before) s a t b → Relates (λ before after. TellsNext n before u.line after) s a u b
  tells-known kept =
      let tells : (x : List ℕ) → TellsNext n (coming t x) u.line (coming u x) = λ x. subst (λ (v : ReaderState). TellsNext n (coming t x) v.line (coming v x)) (sym after) (tells-found t within x n found) in
      known a b tells kept
    where
      known : (a b : Option (List ℕ)) → ((x : List ℕ) → TellsNext n (coming t x) u.line (coming u x)) → Relates (λ before after. after ≡ before) s a t b → Relates (λ before after. TellsNext n before u.line after) s a u b
      known None b tells kept = tt
      known (Some x) None tells kept = absurd kept
      known (Some x) (Some y) tells kept = subst (λ before. TellsNext n before u.line (coming u y)) kept (tells y)

  pub hands_out-known : HandsOut s t a b [] → HandsOut s u a b (bytes_of n u.line)
  hands_out-known moved =
      let gives = subst (λ (v : ReaderState). (t.held ≡ bytes_of n v.line ++ v.held) × (v.taken ≡ t.taken) × (v.limit ≡ t.limit)) (sym after) (gives-found t within n found) in
      record {
        piece = moved.piece;
        source = moved.source;
        bytes = moved.bytes ∙ gives.0;
        taken = gives.1 ∙ moved.taken;
        limit = gives.2 ∙ moved.limit;
      }

  pub one_line-known : IsOneLine n u.line
  one_line-known = subst (λ (v : ReaderState). IsOneLine n v.line) (sym after) (one_line-found t within n found)
