-- From the local form: the physical walk ends where the guest's does.
use Rattle.std.proofs.Common.{ℕ, ◌+◌, ◌*◌, ◌-◌, ◌/◌, ◌%◌, ◌≤◌, ◌<◌, ◌≡◌, Bool, true, false, not, ◌&&◌, eqb, cond, List, Option, None, Some, length, get_or, refl, sym, ap, ◌∙◌, subst, arith}
use Rattle.std.proofs.lemmas.Bool.{false≢true}
use Rattle.std.proofs.lemmas.Bool.Decides.{nat_tests}
use Rattle.gv_types.specs.Memory.{Memory}
use Rattle.gv_entry.specs.declared.process.Process.{Process}
use Rattle.gv_entry.specs.declared.process.Process.TheVariants.{Absent, Table, Large, Page, Bad}
use Rattle.gv_entry.specs.Tables.{level_entry, index_at, Mapped, mapped_page, through, through_or_large, walk, is_guarded}
use Rattle.gv_entry.specs.Grants.{frame_of, if_writable, read_grant, write_grant}
use Rattle.gv_gpu.specs.Device.{Device}
use Rattle.gv_gpu.specs.Physical.{live_page, page_of, entry_in, third_table, second_table, first_table, leaf, read_page, write_page}
use Rattle.gv_guest.specs.Placed.{Placed, Hosts}
use Rattle.gv_shape.specs.Shadows.{host_page}
use Rattle.gv_shape.specs.Shadow.{Pages, split_level, has_leaves, table_word, split_word, leaf_word, Names, Local, wanted}
use Rattle.gv_gpu.specs.Part.{shadow_label}

-- where a walk ends, and the physical entry there
abbrev pub Leads : Placed → (ℕ → Bool) → Option Mapped → ℕ → Type 0
Leads placed guarded None word = word % 2 ≡ 0
Leads placed guarded (Some to) word = (to.frame < length placed.pages) × (word ≡ leaf_word (get_or placed.pages to.frame 0) to.writable (guarded to.frame))

module _ (d : Device) (placed : Placed) (pages : Pages) (guarded : ℕ → Bool) where
  no_leaves : {A : Type 0} (level : ℕ) → 2 ≤ level → level ≤ 4 → has_leaves level ≡ true → A
  no_leaves level high few is = absurd (false≢true (sym (grind (arith, nat_tests)) ∙ is))

  -- at level 1
  at_leaf : (e : Process) (word : ℕ) → Names placed pages guarded 1 e word → Leads placed guarded (mapped_page e) word
  at_leaf Absent word h = h
  at_leaf (Table t) word h = absurd (omega (arith, h.0))
  at_leaf (Large b w) word h = absurd (omega (arith, h.0))
  at_leaf (Page t w) word h = (h.1, h.2)
  at_leaf Bad word h = absurd h

  odd : (p : ℕ) → (p * 4096 + 3) % 2 ≡ 1
  odd p = omega arith

  number : (p : ℕ) → (p * 4096 + 3) / 4096 ≡ p
  number p = omega arith

  even_none : (word : ℕ) → word % 2 ≡ 0 → page_of d word ≡ None
  even_none word h = rw h refl

  live_some : (p : ℕ) (l : _) → d.label p ≡ Some l → live_page d p ≡ Some p
  live_some p l h = rw h refl

  names_table : (p : ℕ) (l : _) → d.label p ≡ Some l → page_of d (table_word p) ≡ Some p
  names_table p l h = rw (odd p, number p) (live_some p l h)

  -- at the levels above 2
  at_table : (level : ℕ) (next : ℕ → Option Mapped) (go : Option ℕ → ℕ) → 3 ≤ level → level ≤ 4
      → ((q p : ℕ) → pages level q ≡ Some p → d.label p ≡ Some (shadow_label placed.guest))
      → go None ≡ 0
      → ((q p : ℕ) → pages (level - 1) q ≡ Some p → (d.label p ≡ Some (shadow_label placed.guest)) × Leads placed guarded (next q) (go (Some p)))
      → (e : Process) (word : ℕ) → Names placed pages guarded level e word → Leads placed guarded (through e next) (go (page_of d word))
  at_table level next go high few label none rest Absent word h = rw (even_none word h, none) refl
  at_table level next go high few label none rest (Table t) word h =
      let p = h.1.1.0 in
      let there = rest t p h.1.1.1 in
      subst (λ o. Leads placed guarded (next t) (go o)) (sym (ap (page_of d) h.1.1.2 ∙ names_table p (shadow_label placed.guest) there.0)) there.1
  at_table level next go high few label none rest (Large b w) word h = absurd (omega (arith, h.0))
  at_table level next go high few label none rest (Page t w) word h = no_leaves level (omega arith) few h.0
  at_table level next go high few label none rest Bad word h = absurd h

  -- a split table's entry
  split_odd : (p : ℕ) (w : Bool) → split_word p w % 2 ≡ 1
  split_odd p true = omega arith
  split_odd p false = omega arith

  split_number : (p : ℕ) (w : Bool) → split_word p w / 4096 ≡ p
  split_number p true = omega arith
  split_number p false = omega arith

  names_split : (p : ℕ) (w : Bool) (l : _) → d.label p ≡ Some l → page_of d (split_word p w) ≡ Some p
  names_split p w l h = rw (split_odd p w, split_number p w) (live_some p l h)

  -- at level 2
  at_second : (index : ℕ) (next : ℕ → Option Mapped) (go : Option ℕ → ℕ)
      → go None ≡ 0
      → ((q p : ℕ) → pages 1 q ≡ Some p → (d.label p ≡ Some (shadow_label placed.guest)) × Leads placed guarded (next q) (go (Some p)))
      → ((b p : ℕ) (w : Bool) → pages (split_level w) b ≡ Some p → (d.label p ≡ Some (shadow_label placed.guest)) × Leads placed guarded (Some (record { frame = b + index; writable = w })) (go (Some p)))
      → (e : Process) (word : ℕ) → Names placed pages guarded 2 e word → Leads placed guarded (through_or_large e index next) (go (page_of d word))
  at_second index next go none rest split Absent word h = rw (even_none word h, none) refl
  at_second index next go none rest split (Table t) word h =
      let p = h.1.1.0 in
      let there = rest t p h.1.1.1 in
      subst (λ o. Leads placed guarded (next t) (go o)) (sym (ap (page_of d) h.1.1.2 ∙ names_table p (shadow_label placed.guest) there.0)) there.1
  at_second index next go none rest split (Large b w) word h =
      let p = h.1.0 in
      let there = split b p w h.1.1 in
      subst (λ o. Leads placed guarded (Some (record { frame = b + index; writable = w })) (go o)) (sym (ap (page_of d) h.1.2 ∙ names_split p w (shadow_label placed.guest) there.0)) there.1
  at_second index next go none rest split (Page t w) word h = no_leaves 2 (omega arith) (omega arith) h.0
  at_second index next go none rest split Bad word h = absurd h

module _ (d : Device) (placed : Placed) (pages : Pages) (guarded : ℕ → Bool) (m : Memory) (root page at : ℕ)
    (stands : Hosts d placed) (local : Local d placed pages guarded (wanted m)) (is : pages 4 root ≡ Some page) where
  abbrev word1 : Option ℕ → ℕ
  word1 o = entry_in d o (index_at 1 at)

  abbrev word2 : Option ℕ → ℕ
  word2 o = word1 (page_of d (entry_in d o (index_at 2 at)))

  abbrev word3 : Option ℕ → ℕ
  word3 o = word2 (page_of d (entry_in d o (index_at 3 at)))

  abbrev walk1 : ℕ → Option Mapped
  walk1 table = mapped_page (level_entry m 1 table (index_at 1 at))

  abbrev walk2 : ℕ → Option Mapped
  walk2 table = through_or_large (level_entry m 2 table (index_at 2 at)) (index_at 1 at) walk1

  abbrev walk3 : ℕ → Option Mapped
  walk3 table = through (level_entry m 3 table (index_at 3 at)) walk2

  below : (level : ℕ) → index_at level at < 512
  below level = omega arith

  to1 : (q p : ℕ) → pages 1 q ≡ Some p → (d.label p ≡ Some (shadow_label placed.guest)) × Leads placed guarded (walk1 q) (word1 (Some p))
  to1 q p h = (local.labelled 1 q p h, at_leaf d placed pages guarded (level_entry m 1 q (index_at 1 at)) (get_or (d.words p) (index_at 1 at) 0) (local.names 1 q p (index_at 1 at) h (below 1)))

  to_split : (b p : ℕ) (w : Bool) → pages (split_level w) b ≡ Some p → (d.label p ≡ Some (shadow_label placed.guest)) × Leads placed guarded (Some (record { frame = b + index_at 1 at; writable = w })) (word1 (Some p))
  to_split b p true h = let leaf = local.names 5 b p (index_at 1 at) h (below 1) in (local.labelled 5 b p h, (leaf.1, leaf.2))
  to_split b p false h = let leaf = local.names 6 b p (index_at 1 at) h (below 1) in (local.labelled 6 b p h, (leaf.1, leaf.2))

  to2 : (q p : ℕ) → pages 2 q ≡ Some p → (d.label p ≡ Some (shadow_label placed.guest)) × Leads placed guarded (walk2 q) (word2 (Some p))
  to2 q p h = (
    local.labelled 2 q p h,
    at_second d placed pages guarded (index_at 1 at) walk1 word1 refl to1 to_split (level_entry m 2 q (index_at 2 at)) (get_or (d.words p) (index_at 2 at) 0) (local.names 2 q p (index_at 2 at) h (below 2)),
  )

  to3 : (q p : ℕ) → pages 3 q ≡ Some p → (d.label p ≡ Some (shadow_label placed.guest)) × Leads placed guarded (walk3 q) (word3 (Some p))
  to3 q p h = (
    local.labelled 3 q p h,
    at_table d placed pages guarded 3 walk2 word2 (omega arith) (omega arith) (local.labelled 3) refl to2 (level_entry m 3 q (index_at 3 at)) (get_or (d.words p) (index_at 3 at) 0) (local.names 3 q p (index_at 3 at) h (below 3)),
  )

  -- The physical walk from the root's page leads where the guest's walk does.
  pub walk-leads : Leads placed guarded (walk m root at) (leaf d page at)
  unfolding leaf first_table second_table third_table
  walk-leads =
      subst (λ o. Leads placed guarded (walk m root at) (word3 (page_of d (entry_in d o (index_at 4 at))))) (sym (live_some d placed pages guarded page (shadow_label placed.guest) (local.labelled 4 root page is)))
      (at_table d placed pages guarded 4 walk3 word3 (omega arith) (omega arith) (local.labelled 4) refl to3 (level_entry m 4 root (index_at 4 at)) (get_or (d.words page) (index_at 4 at) 0) (local.names 4 root page (index_at 4 at) is (below 4)))

leaf_odd : (p : ℕ) (w g : Bool) → leaf_word p w g % 2 ≡ 1
leaf_odd p true true = omega arith
leaf_odd p true false = omega arith
leaf_odd p false g = omega arith

leaf_number : (p : ℕ) (w g : Bool) → leaf_word p w g / 4096 ≡ p
leaf_number p true true = omega arith
leaf_number p true false = omega arith
leaf_number p false g = omega arith

leaf_writable : (p : ℕ) (w g : Bool) → eqb (leaf_word p w g / 2 % 2) 1 ≡ (w && not g)
leaf_writable p true true = grind (arith, nat_tests)
leaf_writable p true false = grind (arith, nat_tests)
leaf_writable p false g = grind (arith, nat_tests)

module _ (d : Device) (placed : Placed) (guarded : ℕ → Bool) (stands : Hosts d placed) where
  names_page : (to : Mapped) (word : ℕ) → to.frame < length placed.pages → word ≡ leaf_word (get_or placed.pages to.frame 0) to.writable (guarded to.frame) → page_of d word ≡ Some (get_or placed.pages to.frame 0)
  names_page to word within e =
      let p = get_or placed.pages to.frame 0 in
      let label = stands.labelled to.frame within in
      let odd = leaf_odd p to.writable (guarded to.frame) in
      let number = leaf_number p to.writable (guarded to.frame) in
      rw (e, odd, number, label) refl

  pub reads-from : (o : Option Mapped) (word : ℕ) → Leads placed guarded o word → page_of d word ≡ host_page placed (frame_of o)
  reads-from None word h = rw h refl
  reads-from (Some to) word h = names_page to word h.0 h.1

  allowed : (b : Bool) (f : ℕ) (o : Option ℕ) → o ≡ Some (get_or placed.pages f 0) → cond b o None ≡ host_page placed (cond b (Some f) None)
  allowed true f o h = h
  allowed false f o h = refl

  pub writes-from : (o : Option Mapped) (word : ℕ) → Leads placed guarded o word → cond (eqb (word / 2 % 2) 1) (page_of d word) None ≡ host_page placed (if_writable guarded o)
  writes-from None word h = none (eqb (word / 2 % 2) 1) (reads-from None word h)
    where
      none : (b : Bool) → page_of d word ≡ None → cond b (page_of d word) None ≡ None
      none true h = h
      none false h = refl
  writes-from (Some to) word h =
      let p = get_or placed.pages to.frame 0 in
      ap (λ b. cond b (page_of d word) None) (ap (λ x. eqb (x / 2 % 2) 1) h.1 ∙ leaf_writable p to.writable (guarded to.frame))
      ∙ allowed (to.writable && not (guarded to.frame)) to.frame (page_of d word) (names_page to word h.0 h.1)

-- Reading and writing go through the shadow tables exactly where the guest's tables grant it.
module _ (d : Device) (placed : Placed) (pages : Pages) (guarded : ℕ → Bool) (m : Memory) (roots : List ℕ) (root page at : ℕ)
    (stands : Hosts d placed) (local : Local d placed pages guarded (wanted m)) (is : pages 4 root ≡ Some page) (same : guarded ≡ is_guarded m roots) where
  pub read-equals : read_page d page false at ≡ host_page placed (read_grant m root at)
  unfolding read_page
  read-equals = reads-from d placed guarded stands (walk m root at) (leaf d page at) (walk-leads d placed pages guarded m root page at stands local is)

  pub write-equals : write_page d page false at ≡ host_page placed (write_grant m roots root at)
  unfolding write_page
  write-equals =
      writes-from d placed guarded stands (walk m root at) (leaf d page at) (walk-leads d placed pages guarded m root page at stands local is)
      ∙ ap (λ g. host_page placed (if_writable g (walk m root at))) same
