-- Two private spaces that differ in one word of a frame which is no table.
use Rattle.std.proofs.Common.{◌≡◌, ℕ, zero, suc, ◌+◌, ◌*◌, ◌/◌, ◌%◌, ◌^◌, ◌<◌, ◌≤◌, Bool, true, false, ◌&&◌, List, [], ◌∷◌, Option, Some, None, IfSome, cond, length, get_or, set, refl, sym, ap, ◌∙◌, subst, eqb, ltb, arith}
use Rattle.std.proofs.lemmas.Bool.{eqb-true}
use Rattle.std.proofs.lemmas.Bool.Decides.{nat_tests}
use Rattle.std.proofs.lemmas.Grind.{flat_map-append}
use Rattle.std.proofs.lemmas.List.{length-set}
use Rattle.gv_types.specs.Bits.{byte_of, with_byte}
use Rattle.gv_types.specs.Maps.{put}
use Rattle.gv_types.specs.Memory.{half_of, with_half}
use Rattle.gv_types.specs.declared.event.Width.TheVariants.{Four, Eight}
use Rattle.gv_cmd.specs.Effect.{effect, colour_byte}
use Rattle.gv_cmd.specs.Kind.{IsLength}
use Rattle.gv_cmd.specs.Table.{length_of, read_length}
use Rattle.gv_cmd.proofs.Lengths.{length_of-form}
use Rattle.gv_entry.specs.SameTables.{has}
use Rattle.gv_entry.specs.Tables.{is_guarded, frame_words}
use Rattle.gv_entry.proofs.SameTables.{unguarded_frame_keeps_tables}
use Rattle.gv_fetch.specs.Fetch.{dwords}
use Rattle.gv_fetch.specs.Left.{live_command}
use Rattle.gv_private.specs.Grants.{frame_read, frame_written}
use Rattle.gv_private.specs.Space.{PrivateSpace, reads, writes, operand_read, operand_written, word_at, byte_read, byte_written, bytes_written, private_operations}
use Rattle.gv_private.proofs.Effects.{writes-free}
use Rattle.gv_turn.proofs.Words.{frame_word, with_frame_word, dword-read, word-read, dword-written, word-written}
use Rattle.gv_exact.specs.Asked.{read_dword, codes_asked, given_one}
use Rattle.gv_exact.specs.Exact.{command_touched, given_by}
use Rattle.gv_exact.specs.Laws.{reads_word, with_other, AgreeBut, OnlyRecordedIsRead, OnlyRecordedCodeIsRead}
use Rattle.gv_exact.specs.Touched.{Reach, Touch, byte_touched, dword_touched, bytes_touched}
use Rattle.gv_exact.proofs.Granted.{Like, itself, same_reads, same_writes, free_written}
use Rattle.gv_exact.proofs.Touches.{done_alike}
use Rattle.gv_exact.proofs.Unread.{or_left, Safe, safe_left, safe_right, Alike, same_done, word_after, length_after}

-- a command has a dword at least
count_some : (h : ℕ) → 1 ≤ read_length (length_of h)
count_some h = by_length (length_of h) (length_of-form h)
  where
    by_length : (o : Option ℕ) → IfSome o IsLength → 1 ≤ read_length o
    by_length None is = omega arith
    by_length (Some n) is = is.0

-- a space with a word of a granted frame
abbrev written : PrivateSpace → Option ℕ → ℕ → ℕ → PrivateSpace
written x grant at word = record x { memory = with_frame_word x.memory grant at word }

dword-as-word : (x : PrivateSpace) (global : Bool) (at value : ℕ) → operand_written x global at value ≡ written x (writes x global at) at (with_half (frame_word x.memory (writes x global at) at) at value)
dword-as-word x global at value = ap (λ m. record x { memory = m }) (dword-written x.memory (writes x global at) at value)

byte-as-word : (x : PrivateSpace) (at value : ℕ) → byte_written x at value ≡ written x (writes x false at) at (with_byte (frame_word x.memory (writes x false at) at) at value)
byte-as-word x at value =
    let grant = writes x false at in
    ap (λ w. record x { memory = frame_written x.memory Eight (word_at at) (with_byte w at value) grant }) (word-read x.memory grant at)
    ∙ ap (λ m. record x { memory = m }) (word-written x.memory grant at (with_byte (frame_word x.memory grant at) at value))

module _ (p : PrivateSpace) (member : has p.roots p.root ≡ true) (frame index : ℕ) where
  record Twin (x y : PrivateSpace) : Type 0 where
    first : Like p x
    second : Like p y
    general : x.general ≡ y.general
    frames : length x.memory ≡ length y.memory
    longs : (g : ℕ) → length (frame_words x.memory g) ≡ length (frame_words y.memory g)
    words : (g k : ℕ) → (eqb g frame && eqb k index) ≡ false → get_or (frame_words x.memory g) k 0 ≡ get_or (frame_words y.memory g) k 0

  module _ (x y : PrivateSpace) (twin : Twin x y) where
    reads_same : (global : Bool) (at : ℕ) → reads x global at ≡ reads y global at
    reads_same global at = same_reads p x twin.first member global at ∙ sym (same_reads p y twin.second member global at)

    writes_same : (global : Bool) (at : ℕ) → writes x global at ≡ writes y global at
    writes_same global at = same_writes p x twin.first member global at ∙ sym (same_writes p y twin.second member global at)

    dword_same : (o : Option ℕ) (at : ℕ) → Safe frame index (dword_touched false o at) → frame_word x.memory o at ≡ frame_word y.memory o at
    dword_same None at safe = refl
    dword_same (Some f) at safe =
        let same : at % 4096 / 4 * 4 / 8 ≡ at % 4096 / 8 = omega arith in
        twin.words f (at % 4096 / 8) (ap (λ i. eqb f frame && eqb i index) (sym same) ∙ or_left _ _ safe)

    byte_same : (o : Option ℕ) (at : ℕ) → Safe frame index (byte_touched false o at) → frame_word x.memory o at ≡ frame_word y.memory o at
    byte_same None at safe = refl
    byte_same (Some f) at safe = twin.words f (at % 4096 / 8) (or_left _ _ safe)

    dword_read : (global : Bool) (at : ℕ) → Safe frame index (dword_touched false (reads x global at) at) → operand_read x global at ≡ operand_read y global at
    dword_read global at safe =
        dword-read x.memory (reads x global at) at
        ∙ ap (λ w. half_of w at) (dword_same (reads x global at) at safe ∙ ap (λ o. frame_word y.memory o at) (reads_same global at))
        ∙ sym (dword-read y.memory (reads y global at) at)

    byte_at : (at : ℕ) → Safe frame index (byte_touched false (reads x false at) at) → byte_read x at ≡ byte_read y at
    byte_at at safe =
        ap (λ w. byte_of w at)
        (word-read x.memory (reads x false at) at
        ∙ byte_same (reads x false at) at safe
        ∙ ap (λ o. frame_word y.memory o at) (reads_same false at)
        ∙ sym (word-read y.memory (reads y false at) at))

    -- a word by the same function of the old word
    at_grant : (o : Option ℕ) (at : ℕ) (h : ℕ → ℕ) → Like p (written x o at (h (frame_word x.memory o at))) → Like p (written y o at (h (frame_word y.memory o at)))
        → Twin (written x o at (h (frame_word x.memory o at))) (written y o at (h (frame_word y.memory o at)))
    at_grant None at h first second = record { first = first; second = second; general = twin.general; frames = twin.frames; longs = twin.longs; words = twin.words }
    at_grant (Some f) at h first second =
        let j = at % 4096 / 8 in
        let u = h (get_or (frame_words x.memory f) j 0) in
        let v = h (get_or (frame_words y.memory f) j 0) in
        record {
          first = first;
          second = second;
          general = twin.general;
          frames = length-set x.memory f (set (frame_words x.memory f) j u) ∙ twin.frames ∙ sym (length-set y.memory f (set (frame_words y.memory f) j v));
          longs = λ g. length_after x.memory f j u g ∙ twin.longs g ∙ sym (length_after y.memory f j v g);
          words = λ g k other.
              word_after x.memory f j u g k
              ∙ ap (λ b. cond (eqb g f && eqb k j && b) u (get_or (frame_words x.memory g) k 0)) (λ i. ltb f (twin.frames i) && ltb j (twin.longs f i))
              ∙ by_place f j g k (h (get_or (frame_words x.memory f) j 0)) (h (get_or (frame_words y.memory f) j 0)) (ltb f (length y.memory) && ltb j (length (frame_words y.memory f))) other (λ here. ap h (twin.words f j here))
              ∙ sym (word_after y.memory f j v g k);
        }
      where
        by_test : (a c : Bool) (u v s t : ℕ) → (a ≡ true → u ≡ v) → s ≡ t → cond (a && c) u s ≡ cond (a && c) v t
        by_test true true u v s t one two = one refl
        by_test true false u v s t one two = two
        by_test false c u v s t one two = two

        by_place : (f j g k u v : ℕ) (c : Bool) → (eqb g frame && eqb k index) ≡ false → ((eqb f frame && eqb j index) ≡ false → u ≡ v)
            → cond (eqb g f && eqb k j && c) u (get_or (frame_words x.memory g) k 0) ≡ cond (eqb g f && eqb k j && c) v (get_or (frame_words y.memory g) k 0)
        by_place f j g k u v c other one = by_test (eqb g f && eqb k j) c u v _ _ (λ is. one (moved is)) (twin.words g k other)
          where
            moved : (eqb g f && eqb k j) ≡ true → (eqb f frame && eqb j index) ≡ false
            moved is = grind (arith, nat_tests)

    -- both by a function, where what is left of each is like p
    changed : (global : Bool) (at : ℕ) (h : ℕ → ℕ) → Like p (written x (writes x global at) at (h (frame_word x.memory (writes x global at) at))) → Like p (written y (writes y global at) at (h (frame_word y.memory (writes y global at) at)))
        → Twin (written x (writes x global at) at (h (frame_word x.memory (writes x global at) at))) (written y (writes y global at) at (h (frame_word y.memory (writes y global at) at)))
    changed global at h mine other =
        let o = writes x global at in
        subst (λ q. Twin (written x o at (h (frame_word x.memory o at))) (written y q at (h (frame_word y.memory q at)))) (writes_same global at)
        (at_grant o at h mine (subst (λ q. Like p (written y q at (h (frame_word y.memory q at)))) (sym (writes_same global at)) other))

    dword_twin : (global : Bool) (at value : ℕ) → Twin (operand_written x global at value) (operand_written y global at value)
    dword_twin global at value =
        let mine = subst (Like p) (dword-as-word x global at value) (free_written p x twin.first Four at value (writes x global at) (writes-free x global at)) in
        let other = subst (Like p) (dword-as-word y global at value) (free_written p y twin.second Four at value (writes y global at) (writes-free y global at)) in
        subst (λ a. Twin a (operand_written y global at value)) (sym (dword-as-word x global at value))
        (subst (λ b. Twin (written x (writes x global at) at (with_half (frame_word x.memory (writes x global at) at) at value)) b) (sym (dword-as-word y global at value))
        (changed global at (λ w. with_half w at value) mine other))

    byte_like : (z : PrivateSpace) → Like p z → (at value : ℕ) → Like p (byte_written z at value)
    byte_like z like at value = free_written p z like Eight (word_at at) (with_byte (frame_read z.memory Eight (word_at at) (writes z false at)) at value) (writes z false at) (writes-free z false at)

    byte_twin : (at value : ℕ) → Twin (byte_written x at value) (byte_written y at value)
    byte_twin at value =
        let mine = subst (Like p) (byte-as-word x at value) (byte_like x twin.first at value) in
        let other = subst (Like p) (byte-as-word y at value) (byte_like y twin.second at value) in
        subst (λ a. Twin a (byte_written y at value)) (sym (byte-as-word x at value))
        (subst (λ b. Twin (written x (writes x false at) at (with_byte (frame_word x.memory (writes x false at) at) at value)) b) (sym (byte-as-word y at value))
        (changed false at (λ w. with_byte w at value) mine other))

  bytes_twin : (x y : PrivateSpace) → Twin x y → (at : ℕ) (f : ℕ → ℕ) (n : ℕ) → Twin (bytes_written x at f n) (bytes_written y at f n)
  unfolding bytes_written
  bytes_twin x y twin at f zero = twin
  bytes_twin x y twin at f (suc n) = byte_twin (bytes_written x at f n) (bytes_written y at f n) (bytes_twin x y twin at f n) (at + n) (f n)

  -- a row that is read safely
  row_twin : (x y : PrivateSpace) → Twin x y → (to from n : ℕ) → Safe frame index (bytes_touched false (λ k. reads x false (from + k)) from n)
      → Twin (bytes_written x to (λ k. byte_read x (from + k)) n) (bytes_written y to (λ k. byte_read y (from + k)) n)
  unfolding bytes_written bytes_touched
  row_twin x y twin to from zero safe = twin
  row_twin x y twin to from (suc n) safe =
      let before = bytes_touched false (λ k. reads x false (from + k)) from n in
      let byte = byte_touched false (reads x false (from + n)) (from + n) in
      let a = bytes_written x to (λ k. byte_read x (from + k)) n in
      let b = bytes_written y to (λ k. byte_read y (from + k)) n in
      let value : byte_read x (from + n) ≡ byte_read y (from + n) = byte_at x y twin (from + n) (safe_right frame index before byte safe) in
      subst (λ v. Twin (byte_written a (to + n) (byte_read x (from + n))) (byte_written b (to + n) v)) value
      (byte_twin a b (row_twin x y twin to from n (safe_left frame index before byte safe)) (to + n) (byte_read x (from + n)))

  alike : Alike private_operations (record { reads = reads; writes = writes }) frame index Twin
  alike = record {
    load = λ x y global at twin safe. dword_read x y twin global at safe;
    left = λ x y global at twin. twin;
    stored = λ x y global at value twin. dword_twin x y twin global at value;
    copied = λ x y to from n twin safe. row_twin x y twin (to % 2 ^ 48) (from % 2 ^ 48) n safe;
    filled = λ x y to n colour depth twin. bytes_twin x y twin (to % 2 ^ 48) (colour_byte colour depth) n;
    gives = λ x y n twin. ap (λ (g : ℕ → ℕ). half_of (g (n / 2)) (4 * n)) twin.general;
    set = λ x y n value twin. record {
      first = record { ranges = twin.first.ranges; entries = twin.first.entries; roots = twin.first.roots; root = twin.first.root; tables = twin.first.tables };
      second = record { ranges = twin.second.ranges; entries = twin.second.entries; roots = twin.second.roots; root = twin.second.root; tables = twin.second.tables };
      general = ap (λ (g : ℕ → ℕ). put g (n / 2) (with_half (g (n / 2)) (4 * n) value)) twin.general;
      frames = twin.frames;
      longs = twin.longs;
      words = twin.words;
    };
  }

  other_twin : (value : ℕ) → is_guarded p.memory p.roots frame ≡ false → Twin p (with_other p frame index value)
  other_twin value free = record {
    first = itself p;
    second = record { ranges = refl; entries = refl; roots = refl; root = refl; tables = unguarded_frame_keeps_tables p.memory p.roots frame (set (frame_words p.memory frame) index value) free };
    general = refl;
    frames = sym (length-set p.memory frame (set (frame_words p.memory frame) index value));
    longs = λ g. sym (length_after p.memory frame index value g);
    words = λ g k other. sym (word_after p.memory frame index value g k
        ∙ ap (λ b. cond (b && (ltb frame (length p.memory) && ltb index (length (frame_words p.memory frame)))) value (get_or (frame_words p.memory g) k 0)) other);
  }

  agree : (value : ℕ) (ws : List ℕ) (engine : ℕ) (privileged : Bool) → is_guarded p.memory p.roots frame ≡ false → reads_word (command_touched ws engine privileged p) frame index ≡ false
      → AgreeBut frame index (effect private_operations ws engine privileged p) (effect private_operations ws engine privileged (with_other p frame index value))
  agree value ws engine privileged free safe =
      let reach : Reach PrivateSpace = record { reads = reads; writes = writes } in
      let q = with_other p frame index value in
      let both = same_done private_operations reach frame index Twin alike ws engine privileged p q (other_twin value free) in
      let own = done_alike private_operations reach ws engine privileged p in
      let twin = subst (λ x. Twin x (effect private_operations ws engine privileged q).after) own.after (both.after safe) in
      record { raise = sym own.raise ∙ both.raise safe; general = twin.general; words = twin.words }

  -- ---- code

  module _ (x y : PrivateSpace) (twin : Twin x y) where
    abbrev asked : ℕ → ℕ → List Touch
    asked at n = given_by x (codes_asked at n)

    last : (at n : ℕ) → List Touch
    last at n = given_by x (read_dword false (at + 4 * n) ∷ [])

    -- the dwords that are read, each by itself
    one_safe : (at n : ℕ) → Safe frame index (asked at (suc n)) → Safe frame index (dword_touched false (reads x false (at + 4 * n)) (at + 4 * n))
    unfolding codes_asked last
    one_safe at n safe =
        safe_left frame index (dword_touched false (reads x false (at + 4 * n)) (at + 4 * n)) []
        (safe_right frame index (asked at n) (last at n) (ap (λ t. reads_word t frame index) (sym (flat_map-append (given_one (reads x) (writes x)) (codes_asked at n) (read_dword false (at + 4 * n) ∷ []))) ∙ safe))

    before_safe : (at n : ℕ) → Safe frame index (asked at (suc n)) → Safe frame index (asked at n)
    unfolding codes_asked last
    before_safe at n safe =
        safe_left frame index (asked at n) (last at n) (ap (λ t. reads_word t frame index) (sym (flat_map-append (given_one (reads x) (writes x)) (codes_asked at n) (read_dword false (at + 4 * n) ∷ []))) ∙ safe)

    each_same : (at n : ℕ) → Safe frame index (asked at n) → (k : ℕ) → k < n → operand_read x false (at + 4 * k) ≡ operand_read y false (at + 4 * k)
    each_same at zero safe k low = absurd (omega arith)
    each_same at (suc n) safe k low = by_place (λ less. each_same at n (before_safe at n safe) k less) (eqb k n) refl
      where
        by_place : (k < n → operand_read x false (at + 4 * k) ≡ operand_read y false (at + 4 * k)) → (b : Bool) → eqb k n ≡ b → operand_read x false (at + 4 * k) ≡ operand_read y false (at + 4 * k)
        by_place before true is = subst (λ j. operand_read x false (at + 4 * j) ≡ operand_read y false (at + 4 * j)) (sym (eqb-true k n is)) (dword_read x y twin false (at + 4 * n) (one_safe at n safe))
        by_place before false is = let less : k < n = grind (arith, nat_tests) in before less

    all_same : (f g : ℕ → ℕ) (at n : ℕ) → ((k : ℕ) → k < n → f (at + 4 * k) ≡ g (at + 4 * k)) → dwords f at n ≡ dwords g at n
    unfolding dwords
    all_same f g at zero each = refl
    all_same f g at (suc n) each =
        let some : 0 < suc n = omega arith in
        let here : at + 4 * 0 ≡ at = omega arith in
        let head : f at ≡ g at = subst (λ a. f a ≡ g a) here (each 0 some) in
        let rest : (k : ℕ) → k < n → f (at + 4 + 4 * k) ≡ g (at + 4 + 4 * k) =
        (λ k low. let more : suc k < suc n = omega arith in let place : at + 4 * (suc k) ≡ at + 4 + 4 * k = omega arith in subst (λ a. f a ≡ g a) place (each (suc k) more)) in
        λ i. head i ∷ all_same f g (at + 4) n rest i

    front_same : (at : ℕ) → Safe frame index (asked at (read_length (length_of (operand_read x false at)))) → live_command (operand_read x false) at ≡ live_command (operand_read y false) at
    front_same at safe =
        let n = read_length (length_of (operand_read x false at)) in
        let least = count_some (operand_read x false at) in
        let some : 0 < n = omega arith in
        let here : at + 4 * 0 ≡ at = omega arith in
        let head : operand_read x false at ≡ operand_read y false at = subst (λ a. operand_read x false a ≡ operand_read y false a) here (each_same at n safe 0 some) in
        all_same (operand_read x false) (operand_read y false) at n (each_same at n safe)
        ∙ ap (λ h. dwords (operand_read y false) at (read_length (length_of h))) head

pub only_recorded_is_read : OnlyRecordedIsRead
only_recorded_is_read p frame index value ws engine privileged member free safe = agree p member frame index value ws engine privileged free safe

pub only_recorded_code_is_read : OnlyRecordedCodeIsRead
only_recorded_code_is_read p frame index value at member free safe = front_same p member frame index p (with_other p frame index value) (other_twin p member frame index value free) at safe
