-- The operations of the shared device and of a private space agree, where the shadow tables are right.
use Rattle.std.proofs.Common.{◌≡◌, ℕ, zero, suc, ◌+◌, ◌*◌, ◌/◌, ◌%◌, ◌^◌, ◌<◌, Bool, true, false, not, ◌||◌, [], Option, Some, None, IfSome, cond, length, get_or, set, refl, sym, ap, ◌∙◌, subst, arith, eqb, ltb}
use Rattle.std.proofs.lemmas.Bool.{eq-eqb, lt-ltb}
use Rattle.std.proofs.lemmas.Bool.Decides.{nat_tests}
use Rattle.std.proofs.lemmas.Grind.{common_steps}
use Rattle.std.proofs.lemmas.List.{length-map}
use Rattle.gv_types.specs.Bits.{byte_of, with_byte}
use Rattle.gv_types.specs.Maps.{put}
use Rattle.gv_types.specs.Memory.{half_of, with_half}
use Rattle.gv_types.specs.declared.event.Width.TheVariants.{Eight}
use Rattle.gv_types.specs.declared.ranges.Ranges.{Ranges}
use Rattle.gv_cmd.specs.Effect.{colour_byte}
use Rattle.gv_cmd.specs.Simulation.{access, Simulates}
use Rattle.gv_cmd.proofs.Simulation.{effects_agree}
use Rattle.gv_entry.specs.Grants.{global_grant}
use Rattle.gv_entry.specs.Global.{global_entry}
use Rattle.gv_entry.specs.Ranges.{InParts, owns_page}
use Rattle.gv_entry.specs.SameTables.{SameTables}
use Rattle.gv_entry.specs.Tables.{walk, is_guarded}
use Rattle.gv_entry.proofs.SameTables.{tables_decide, unguarded_frame_keeps_tables, same_tables_chain}
use Rattle.gv_gpu.specs.Device.{Device, Loaded, with_page_word, with_engine_general}
use Rattle.gv_gpu.specs.Part.{Part, outside, step_part, is_frame_of}
use Rattle.gv_gpu.specs.Physical.{page_of, word_in, word_stored, read_page, write_page, byte_at, byte_stored, operand_at, operand_stored, is_anothers, page_strays, written_strays, walk_strays, read_strays, write_strays}
use Rattle.gv_gpu.specs.Step.{Stepping, operations, bytes_stored, bytes_stray}
use Rattle.gv_guest.specs.Placed.{Placed, Hosts, frame_label}
use Rattle.gv_guest.proofs.Written.{own_frame}
use Rattle.gv_private.specs.Grants.{frame_read, frame_written}
use Rattle.gv_private.specs.Space.{PrivateSpace, reads, writes, operand_read, operand_written, word_at, byte_read, byte_written, bytes_written, private_operations}
use Rattle.gv_private.proofs.Effects.{writes-free}
use Rattle.gv_private.proofs.Granted.{IsFree}
use Rattle.gv_sggtt.specs.Mirror.{NamesFrame}
use Rattle.gv_shape.specs.Shadows.{Reaches, host_page}
use Rattle.gv_shape.proofs.Shadows.{shadows_reach, shadows_keep}
use Rattle.gv_turn.specs.Owned.{MayReach}
use Rattle.gv_turn.specs.Same.{Setting, Same, granted}
use Rattle.gv_turn.specs.Laws.{CommandsAgree}
use Rattle.gv_turn.proofs.Granted.{IsLow, page-low, read-low, write-low}
use Rattle.gv_turn.proofs.Walks.{page_of-named, page_of-absent, walk-straight, walk-low}
use Rattle.gv_turn.proofs.Words.{frame_word, with_frame_word, dword-read, word-read, dword-written, word-written, word-same, memory-stored, hosts-stored, pages-stored}

-- ---- pages of the global table

names_read : (d : Device) (placed : Placed) (grant : Option ℕ) (entry : ℕ) → Hosts d placed → IsLow (length placed.pages) grant → NamesFrame placed grant entry → page_of d entry ≡ host_page placed grant
names_read d placed None entry stands low is = page_of-absent d entry is
names_read d placed (Some f) entry stands low is = ap (page_of d) is ∙ page_of-named d (get_or placed.pages f 0) 3 (frame_label placed.guest) refl (omega arith) (stands.labelled f low)

same_none : (b : Bool) (o : Option ℕ) → o ≡ None → cond b o None ≡ None
same_none true o is = is
same_none false o is = refl

names_write : (d : Device) (placed : Placed) (grant : Option ℕ) (entry : ℕ) → Hosts d placed → IsLow (length placed.pages) grant → NamesFrame placed grant entry → cond (eqb (entry / 2 % 2) 1) (page_of d entry) None ≡ host_page placed grant
names_write d placed None entry stands low is = same_none (eqb (entry / 2 % 2) 1) (page_of d entry) (page_of-absent d entry is)
names_write d placed (Some f) entry stands low is =
    let bit : entry / 2 % 2 ≡ 1 = omega arith in
    rw bit (names_read d placed (Some f) entry stands low is)

-- ---- strays

pub neither : (a b : Bool) → a ≡ false → b ≡ false → (a || b) ≡ false
neither true b ha hb = cc
neither false b ha hb = hb

frame_page : (d : Device) (placed : Placed) (owner : ℕ) (grant : Option ℕ) → Hosts d placed → owner ≡ placed.guest → IsLow (length placed.pages) grant → page_strays d owner (host_page placed grant) ≡ false
frame_page d placed owner None stands own low = refl
frame_page d placed owner (Some f) stands own low = ap (is_anothers owner) (stands.labelled f low) ∙ ap not (eq-eqb placed.guest owner (sym own))

written_page : (d : Device) (placed : Placed) (l : Loaded) (grant : Option ℕ) → Hosts d placed → l.owner ≡ placed.guest → IsLow (length placed.pages) grant → written_strays d l (host_page placed grant) ≡ false
written_page d placed l None stands own low = refl
written_page d placed l (Some f) stands own low = rw (stands.labelled f low, eq-eqb placed.guest l.owner (sym own)) refl

-- ---- the rest of the device

outside-stored : (p : Part) (d : Device) (page index word : ℕ) → p.page page (d.label page) ≡ true → outside p (with_page_word d page index word) ≡ outside p d
outside-stored p d page index word own = λ i. record (outside p d) { words = λ q. at q i }
  where
    at : (q : ℕ) → cond (p.page q (d.label q)) [] (put d.words page (set (d.words page) index word) q) ≡ cond (p.page q (d.label q)) [] (d.words q)
    at q = grind (arith, common_steps)

outside-general : (p : Part) (d : Device) (engine n value : ℕ) → p.engine engine ≡ true → outside p (with_engine_general d engine n value) ≡ outside p d
outside-general p d engine n value own = λ i. record (outside p d) { general = λ e. at e i }
  where
    at : (e : ℕ) → cond (p.engine e) (λ _. 0) (put d.general engine (put (d.general engine) n value) e) ≡ cond (p.engine e) (λ _. 0) (d.general e)
    at e = grind (arith, common_steps)

-- ---- a space and a step that stand for each other

owned_below : (ranges : Ranges) (page : ℕ) → InParts ranges → owns_page ranges page ≡ true → page < 0xFC000
owned_below ranges page parts own = grind (arith, nat_tests)

module _ (t : Setting) (parts : InParts t.space.ranges) where
  abbrev placed : Placed
  placed = t.placed

  abbrev ranges : Ranges
  ranges = t.space.ranges

  module _ (x : PrivateSpace) (y : Stepping) (same : Same t x y) where
    frames : length x.memory ≡ length placed.pages
    frames = ap length same.memory ∙ length-map placed.pages y.device.words

    walked_low : (at : ℕ) → IfSome (walk x.memory x.root at) (λ page. page.frame < length placed.pages)
    walked_low at = walk-low y.device placed x.memory x.roots t.pages same.shadows x.root y.context.root same.root same.stands at

    global_low : (page : ℕ) → IsLow (length placed.pages) (granted x page)
    global_low page = subst (λ n. IsLow n (granted x page)) frames (page-low x.ranges x.entries x.memory x.roots page)

    pub reads_placed : (global : Bool) (at : ℕ) → IsLow (length placed.pages) (reads x global at)
    reads_placed true at = global_low (at / 4096)
    reads_placed false at = read-low (length placed.pages) (walk x.memory x.root at) (walked_low at)

    pub writes_placed : (global : Bool) (at : ℕ) → IsLow (length placed.pages) (writes x global at)
    writes_placed true at = global_low (at / 4096)
    writes_placed false at = write-low (length placed.pages) (is_guarded x.memory x.roots) (walk x.memory x.root at) (walked_low at)

    the_pages : Reaches y.device placed x.memory x.roots x.root y.context.root
    the_pages = shadows_reach y.device placed x.memory x.roots t.pages x.root y.context.root same.stands same.shadows same.root

    below : (at : ℕ) → owns_page ranges (at / 4096) ≡ true → ltb at (2 ^ 32) ≡ true
    below at own = let page = owned_below ranges (at / 4096) parts own in lt-ltb at (2 ^ 32) (omega arith)

    pub page_read : (global : Bool) (at : ℕ) → MayReach ranges (access global at) → read_page y.device y.context.root global at ≡ host_page placed (reads x global at)
    unfolding read_page
    page_read true at may =
        ap (λ b. page_of y.device (cond b (y.device.global (at / 4096)) 0)) (below at may)
        ∙ names_read y.device placed (granted x (at / 4096)) (y.device.global (at / 4096)) same.stands (reads_placed true at) (same.mirrors (at / 4096) may)
    page_read false at may = the_pages.read at

    pub page_written : (global : Bool) (at : ℕ) → MayReach ranges (access global at) → write_page y.device y.context.root global at ≡ host_page placed (writes x global at)
    unfolding write_page
    page_written true at may =
        ap (λ b. let e = cond b (y.device.global (at / 4096)) 0 in cond (eqb (e / 2 % 2) 1) (page_of y.device e) None) (below at may)
        ∙ names_write y.device placed (granted x (at / 4096)) (y.device.global (at / 4096)) same.stands (reads_placed true at) (same.mirrors (at / 4096) may)
    page_written false at may = the_pages.write at

    word_there : (grant : Option ℕ) (at : ℕ) → IsLow (length placed.pages) grant → word_in y.device (host_page placed grant) at ≡ frame_word x.memory grant at
    word_there grant at there = word-same y.device placed same.stands grant at there ∙ ap (λ m. frame_word m grant at) (sym same.memory)

    word_reached : (global : Bool) (at : ℕ) → MayReach ranges (access global at) → word_in y.device (read_page y.device y.context.root global at) at ≡ frame_word x.memory (reads x global at) at
    word_reached global at may = ap (λ o. word_in y.device o at) (page_read global at may) ∙ word_there (reads x global at) at (reads_placed global at)

    walk_own : (global : Bool) (at : ℕ) → walk_strays y.device y.context global at ≡ false
    unfolding walk_strays
    walk_own true at = refl
    walk_own false at = walk-straight y.device placed x.memory x.roots t.pages same.shadows x.root y.context.root same.root y.context at same.owner refl

    pub read_own : (global : Bool) (at : ℕ) → MayReach ranges (access global at) → read_strays y.device y.context global at ≡ false
    unfolding read_strays
    read_own global at may =
        neither _ _ (walk_own global at)
        (ap (page_strays y.device y.context.owner) (page_read global at may) ∙ frame_page y.device placed y.context.owner (reads x global at) same.stands same.owner (reads_placed global at))

    write_own : (global : Bool) (at : ℕ) → MayReach ranges (access global at) → write_strays y.device y.context global at ≡ false
    unfolding write_strays
    write_own global at may =
        neither _ _ (walk_own global at)
        (ap (written_strays y.device y.context) (page_written global at may) ∙ written_page y.device placed y.context (writes x global at) same.stands same.owner (writes_placed global at))

    -- a frame that isn't guarded gets a word
    abbrev written : Option ℕ → ℕ → ℕ → PrivateSpace
    written grant at word = record x { memory = with_frame_word x.memory grant at word }

    kept : (grant : Option ℕ) (at word : ℕ) (strayed : Bool) → IsLow (length placed.pages) grant → IsFree x.memory x.roots grant → strayed ≡ false
        → Same t (written grant at word) (record y { device = word_stored y.device (host_page placed grant) at word; strayed = strayed })
    kept None at word strayed low free straight = record {
      stands = same.stands;
      memory = same.memory;
      rest = same.rest;
      tables = same.tables;
      engine = same.engine;
      owner = same.owner;
      root = same.root;
      shadows = same.shadows;
      mirrors = same.mirrors;
      general = same.general;
      straight = straight;
      outside = same.outside;
    }
    kept (Some f) at word strayed low free straight =
        let n = with_frame_word x.memory (Some f) at word in
        let tables : SameTables x.memory n x.roots = unguarded_frame_keeps_tables x.memory x.roots f _ free in
        let guarded = (tables_decide x.memory n x.roots tables).guarded in
        let keeps = pages-stored y.device placed same.stands x.memory x.roots t.pages (Some f) at word low same.shadows in
        record {
          stands = hosts-stored y.device placed same.stands (host_page placed (Some f)) at word;
          memory = ap (λ m. with_frame_word m (Some f) at word) same.memory ∙ sym (memory-stored y.device placed same.stands (Some f) at word low);
          tables = same_tables_chain t.space.memory x.memory n x.roots same.tables tables;
          rest = ap (λ (q : PrivateSpace). record q { memory = n }) same.rest;
          engine = same.engine;
          owner = same.owner;
          root = same.root;
          shadows = shadows_keep y.device (word_stored y.device (host_page placed (Some f)) at word) placed x.memory n x.roots t.pages keeps tables same.shadows;
          mirrors = λ page own. subst (λ grant. NamesFrame placed grant (y.device.global page))
              (λ i. global_grant x.ranges (sym tables.frames i) (sym guarded i) (global_entry x.ranges x.entries) page)
              (same.mirrors page own);
          general = same.general;
          straight = straight;
          outside = outside-stored (step_part t.placed.guest t.engine) y.device (get_or placed.pages f 0) (at % 4096 / 8) word (ap (is_frame_of placed.guest) (same.stands.labelled f low) ∙ own_frame placed.guest) ∙ same.outside;
        }

    changed : (global : Bool) (at : ℕ) (f : ℕ → ℕ) → MayReach ranges (access global at)
        → Same t (written (writes x global at) at (f (frame_word x.memory (writes x global at) at)))
        (record y {
          device = word_stored y.device (write_page y.device y.context.root global at) at (f (word_in y.device (write_page y.device y.context.root global at) at));
          strayed = y.strayed || write_strays y.device y.context global at;
        })
    changed global at f may =
        let grant = writes x global at in
        let strayed = y.strayed || write_strays y.device y.context global at in
        let device : word_stored y.device (write_page y.device y.context.root global at) at (f (word_in y.device (write_page y.device y.context.root global at) at)) ≡ word_stored y.device (host_page placed grant) at (f (frame_word x.memory grant at)) =
        ap (λ o. word_stored y.device o at (f (word_in y.device o at))) (page_written global at may)
        ∙ ap (λ w. word_stored y.device (host_page placed grant) at (f w)) (word_there grant at (writes_placed global at)) in
        subst (λ e. Same t (written grant at (f (frame_word x.memory grant at))) (record y { device = e; strayed = strayed })) (sym device)
        (kept grant at (f (frame_word x.memory grant at)) strayed (writes_placed global at) (writes-free x global at) (neither _ _ same.straight (write_own global at may)))

    -- a read strays to no one, or another read
    pub left_alone : (strayed : Bool) → strayed ≡ false → Same t x (record y { strayed = strayed })
    left_alone strayed straight = record {
      stands = same.stands;
      memory = same.memory;
      rest = same.rest;
      tables = same.tables;
      engine = same.engine;
      owner = same.owner;
      root = same.root;
      shadows = same.shadows;
      mirrors = same.mirrors;
      general = same.general;
      straight = straight;
      outside = same.outside;
    }

    pub dword_loaded : (global : Bool) (at : ℕ) → MayReach ranges (access global at) → operand_read x global at ≡ operand_at y.device y.context.root global at
    unfolding operand_at
    dword_loaded global at may = dword-read x.memory (reads x global at) at ∙ ap (λ w. half_of w at) (sym (word_reached global at may))

    dword_stored : (global : Bool) (at value : ℕ) → MayReach ranges (access global at) → Same t (operand_written x global at value) (operations.stored y global at value)
    unfolding operand_stored
    dword_stored global at value may =
        subst (λ m. Same t (record x { memory = m }) (operations.stored y global at value)) (sym (dword-written x.memory (writes x global at) at value))
        (changed global at (λ w. with_half w at value) may)

    pub byte_loaded : (at : ℕ) → byte_read x at ≡ byte_at y.device y.context.root false at
    unfolding byte_at
    byte_loaded at = ap (λ w. byte_of w at) (word-read x.memory (reads x false at) at ∙ sym (word_reached false at refl))

    byte_kept : (at value : ℕ) → Same t (byte_written x at value) (record y { device = byte_stored y.device y.context.root false at value; strayed = y.strayed || write_strays y.device y.context false at })
    unfolding byte_stored
    byte_kept at value =
        let grant = writes x false at in
        let is : frame_written x.memory Eight (word_at at) (with_byte (frame_read x.memory Eight (word_at at) grant) at value) grant ≡ with_frame_word x.memory grant at (with_byte (frame_word x.memory grant at) at value) =
        ap (λ w. frame_written x.memory Eight (word_at at) (with_byte w at value) grant) (word-read x.memory grant at) ∙ word-written x.memory grant at (with_byte (frame_word x.memory grant at) at value) in
        subst (λ m. Same t (record x { memory = m }) (record y { device = byte_stored y.device y.context.root false at value; strayed = y.strayed || write_strays y.device y.context false at })) (sym is)
        (changed false at (λ w. with_byte w at value) refl)

    bytes_own : (at n : ℕ) → bytes_stray y.device y.context at n ≡ false
    unfolding bytes_stray
    bytes_own at zero = refl
    bytes_own at (suc n) = neither _ _ (bytes_own at n) (read_own false (at + n) refl)

    general_kept : (n value : ℕ) → Same t (private_operations.general_set x n value) (operations.general_set y n value)
    general_kept n value =
        let e = y.engine in
        let d = y.device in
        record {
          stands = record { labelled = same.stands.labelled; long = same.stands.long; below = same.stands.below; apart = same.stands.apart; all = same.stands.all };
          memory = same.memory;
          tables = same.tables;
          rest = ap (λ (q : PrivateSpace). record q { general = put x.general (n / 2) (with_half (x.general (n / 2)) (4 * n) value) }) same.rest;
          engine = same.engine;
          owner = same.owner;
          root = same.root;
          shadows = record { tables = same.shadows.tables; local = record { labelled = same.shadows.local.labelled; names = same.shadows.local.names } };
          mirrors = same.mirrors;
          general =
              ap (λ g. put g (n / 2) (with_half (g (n / 2)) (4 * n) value)) same.general
              ∙ sym (ap (λ b. cond b (put (d.general e) (n / 2) (with_half (d.general e (n / 2)) (4 * n) value)) (d.general e)) (eq-eqb e e refl));
          straight = same.straight;
          outside = outside-general (step_part t.placed.guest t.engine) y.device e (n / 2) (with_half (d.general e (n / 2)) (4 * n) value) (eq-eqb e t.engine same.engine) ∙ same.outside;
        }

  bytes_kept : (x : PrivateSpace) (y : Stepping) → Same t x y → (at : ℕ) (f g : ℕ → ℕ) → ((k : ℕ) → f k ≡ g k) → (n : ℕ) → Same t (bytes_written x at f n) (bytes_stored y at g n)
  unfolding bytes_written bytes_stored
  bytes_kept x y same at f g agree zero = same
  bytes_kept x y same at f g agree (suc n) =
      let q = bytes_written x at f n in
      let u = bytes_stored y at g n in
      let before : Same t q u = bytes_kept x y same at f g agree n in
      subst (λ byte. Same t (byte_written q (at + n) byte) (bytes_stored y at g (suc n))) (sym (agree n))
      (byte_kept q u before (at + n) (g n))

  row_kept : (x : PrivateSpace) (y : Stepping) (to from n : ℕ) → Same t x y → Same t (private_operations.row_copied x to from n) (operations.row_copied y to from n)
  row_kept x y to from n same =
      bytes_kept x (record y { strayed = y.strayed || bytes_stray y.device y.context (from % 2 ^ 48) n })
      (left_alone x y same _ (neither _ _ same.straight (bytes_own x y same (from % 2 ^ 48) n)))
      (to % 2 ^ 48) _ _ (λ k. byte_loaded x y same (from % 2 ^ 48 + k)) n

  pub simulates : Simulates private_operations operations (Same t) (MayReach ranges)
  simulates = record {
    load_gives = λ x y global at same may. dword_loaded x y same global at may;
    load_leaves = λ x y global at same may. left_alone x y same _ (neither _ _ same.straight (read_own x y same global at may));
    stored = λ x y global at value same may. dword_stored x y same global at value may;
    row_copied = λ x y to from n same. row_kept x y to from n same;
    row_filled = λ x y to n colour depth same. bytes_kept x y same (to % 2 ^ 48) (colour_byte colour depth) (colour_byte colour depth) (λ k. refl) n;
    general_gives = λ x y n small same. ap (λ g. half_of (g (n / 2)) (4 * n)) same.general;
    general_set = λ x y n value small same. general_kept x y same n value;
  }

pub commands_agree : CommandsAgree
commands_agree t parts = effects_agree private_operations operations (Same t) (MayReach t.space.ranges) (simulates t parts)
