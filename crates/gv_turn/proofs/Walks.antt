-- The physical walk from a root's node passes shadow pages of the guest's alone, and so strays nowhere.
use Rattle.std.proofs.Common.{◌≡◌, ℕ, ◌+◌, ◌*◌, ◌-◌, ◌/◌, ◌%◌, ◌^◌, ◌<◌, ◌≤◌, Bool, true, false, not, ◌||◌, List, Option, Some, None, IfSome, length, get_or, refl, sym, ap, ◌∙◌, subst, arith}
use Rattle.std.proofs.lemmas.Bool.{eq-eqb, false≢true}
use Rattle.std.proofs.lemmas.Bool.Decides.{nat_tests}
use Rattle.gv_types.specs.Memory.{Memory}
use Rattle.gv_types.specs.declared.ids.Label.{Label}
use Rattle.gv_entry.specs.Tables.{Mapped, walk, is_guarded}
use Rattle.gv_entry.specs.declared.process.Process.{Process}
use Rattle.gv_entry.specs.declared.process.Process.TheVariants.{Absent, Table, Large, Page, Bad}
use Rattle.gv_gpu.specs.Device.{Device, Loaded}
use Rattle.gv_gpu.specs.Physical.{live_page, page_of, entry_in, third_table, second_table, first_table, leaf, is_anothers, page_strays, walk_strays}
use Rattle.gv_guest.specs.Placed.{Placed, Hosts}
use Rattle.gv_shape.specs.Shadow.{Pages, split_level, has_leaves, table_word, split_word, Names, wanted}
use Rattle.gv_shape.specs.Shadows.{Shadows}
use Rattle.gv_shape.proofs.Walk.{Leads, walk-leads}
use Rattle.gv_gpu.specs.Part.{shadow_label}

-- ---- physical entries

pub page_of-named : (d : Device) (page bits : ℕ) (l : Label) → bits % 2 ≡ 1 → bits < 4096 → d.label page ≡ Some l → page_of d (page * 4096 + bits) ≡ Some page
page_of-named d page bits l odd few is =
    let test : (page * 4096 + bits) % 2 ≡ 1 = omega arith in
    let number : (page * 4096 + bits) / 4096 ≡ page = omega arith in
    rw (test, number, is) refl

pub page_of-absent : (d : Device) (word : ℕ) → word % 2 ≡ 0 → page_of d word ≡ None
page_of-absent d word is = rw is refl

page_of-split : (d : Device) (page : ℕ) (writable : Bool) (l : Label) → d.label page ≡ Some l → page_of d (split_word page writable) ≡ Some page
page_of-split d page true l is = page_of-named d page 15 l refl (omega arith) is
page_of-split d page false l is = page_of-named d page 7 l refl (omega arith) is

live_page-is : (d : Device) (page : ℕ) (l : Label) → d.label page ≡ Some l → live_page d page ≡ Some page
live_page-is d page l is = rw is refl

-- ---- shadow pages

abbrev pub IsShadowPage : Device → ℕ → Option ℕ → Type 0
IsShadowPage d guest None = Unit {0}
IsShadowPage d guest (Some page) = d.label page ≡ Some (shadow_label guest)

module _ (d : Device) (placed : Placed) (m : Memory) (roots : List ℕ) (pages : Pages) (shadows : Shadows d placed m roots pages) where
  abbrev guarded : ℕ → Bool
  guarded = is_guarded m roots

  -- a table that the walk reaches, if any
  abbrev Reached : ℕ → Option ℕ → Type 0
  Reached level None = Unit {0}
  Reached level (Some page) = (frame : ℕ) × (pages level frame ≡ Some page)

  reached_page : (level : ℕ) (o : Option ℕ) → Reached level o → IsShadowPage d placed.guest o
  reached_page level None r = tt
  reached_page level (Some page) r = shadows.local.labelled level r.0 page r.1

  no_leaves : {A : Type 0} (level : ℕ) → 2 ≤ level → level ≤ 4 → has_leaves level ≡ true → A
  no_leaves level high few is = absurd (false≢true (sym (grind (arith, nat_tests)) ∙ is))

  table_page : (level h : ℕ) (word : ℕ) (p : ℕ) → pages level h ≡ Some p → word ≡ table_word p → page_of d word ≡ Some p
  table_page level h word p is e = ap (page_of d) e ∙ page_of-named d p 3 (shadow_label placed.guest) refl (omega arith) (shadows.local.labelled level h p is)

  split_page : (w : Bool) (b word p : ℕ) → pages (split_level w) b ≡ Some p → word ≡ split_word p w → page_of d word ≡ Some p
  split_page w b word p is e = ap (page_of d) e ∙ page_of-split d p w (shadow_label placed.guest) (shadows.local.labelled (split_level w) b p is)

  -- above level 2 a word leads to no page or to a node
  word_reaches : (level : ℕ) (e : Process) (word : ℕ) → 3 ≤ level → level ≤ 4 → Names placed pages guarded level e word → Reached (level - 1) (page_of d word)
  word_reaches level Absent word high few is = subst (Reached (level - 1)) (sym (page_of-absent d word is)) tt
  word_reaches level (Table h) word high few is = subst (Reached (level - 1)) (sym (table_page (level - 1) h word is.1.1.0 is.1.1.1 is.1.1.2)) (h, is.1.1.1)
  word_reaches level (Large b w) word high few is = absurd (omega (arith, is.0))
  word_reaches level (Page h w) word high few is = no_leaves level (omega arith) few is.0
  word_reaches level Bad word high few is = absurd is

  -- at level 2 it may also lead to a split table
  word_shadow : (e : Process) (word : ℕ) → Names placed pages guarded 2 e word → IsShadowPage d placed.guest (page_of d word)
  word_shadow Absent word is = subst (IsShadowPage d placed.guest) (sym (page_of-absent d word is)) tt
  word_shadow (Table h) word is = subst (IsShadowPage d placed.guest) (sym (table_page 1 h word is.1.1.0 is.1.1.1 is.1.1.2)) (shadows.local.labelled 1 h is.1.1.0 is.1.1.1)
  word_shadow (Large b w) word is = subst (IsShadowPage d placed.guest) (sym (split_page w b word is.1.0 is.1.1 is.1.2)) (shadows.local.labelled (split_level w) b is.1.0 is.1.1)
  word_shadow (Page h w) word is = no_leaves 2 (omega arith) (omega arith) is.0
  word_shadow Bad word is = absurd is

  entry_reaches : (level : ℕ) (o : Option ℕ) (index : ℕ) → 3 ≤ level → level ≤ 4 → index < 512 → Reached level o → Reached (level - 1) (page_of d (entry_in d o index))
  entry_reaches level None index high few small r = tt
  entry_reaches level (Some page) index high few small r =
      word_reaches level (wanted m level r.0 index) (get_or (d.words page) index 0) high few (shadows.local.names level r.0 page index r.1 small)

  entry_shadow : (o : Option ℕ) (index : ℕ) → index < 512 → Reached 2 o → IsShadowPage d placed.guest (page_of d (entry_in d o index))
  entry_shadow None index small r = tt
  entry_shadow (Some page) index small r = word_shadow (wanted m 2 r.0 index) (get_or (d.words page) index 0) (shadows.local.names 2 r.0 page index r.1 small)

  module _ (root host : ℕ) (node : pages 4 root ≡ Some host) where
    label : d.label host ≡ Some (shadow_label placed.guest)
    label = shadows.local.labelled 4 root host node

    top_reached : Reached 4 (live_page d host)
    top_reached = subst (Reached 4) (sym (live_page-is d host (shadow_label placed.guest) label)) (root, node)

    third_reached : (at : ℕ) → Reached 3 (third_table d host at)
    unfolding third_table
    third_reached at = entry_reaches 4 (live_page d host) (at / 2 ^ 39 % 512) (omega arith) (omega arith) (omega arith) top_reached

    second_reached : (at : ℕ) → Reached 2 (second_table d host at)
    unfolding second_table
    second_reached at = entry_reaches 3 (third_table d host at) (at / 2 ^ 30 % 512) (omega arith) (omega arith) (omega arith) (third_reached at)

    first_shadow : (at : ℕ) → IsShadowPage d placed.guest (first_table d host at)
    unfolding first_table
    first_shadow at = entry_shadow (second_table d host at) (at / 2 ^ 21 % 512) (omega arith) (second_reached at)

    own_page : (owner : ℕ) (o : Option ℕ) → owner ≡ placed.guest → IsShadowPage d placed.guest o → page_strays d owner o ≡ false
    own_page owner None is shadow = refl
    own_page owner (Some page) is shadow = ap (is_anothers owner) shadow ∙ ap not (eq-eqb placed.guest owner (sym is))

    none_of : (a b c e : Bool) → a ≡ false → b ≡ false → c ≡ false → e ≡ false → (a || b || c || e) ≡ false
    none_of true b c e ha hb hc he = cc
    none_of false true c e ha hb hc he = cc
    none_of false false true e ha hb hc he = cc
    none_of false false false e ha hb hc he = he

    -- a walk from there is no stray
    pub walk-straight : (l : Loaded) (at : ℕ) → l.owner ≡ placed.guest → l.root ≡ host → walk_strays d l false at ≡ false
    unfolding walk_strays
    walk-straight l at own is =
        let P : ℕ → Type 0 = λ r. (page_strays d l.owner (live_page d r) || page_strays d l.owner (third_table d r at) || page_strays d l.owner (second_table d r at) || page_strays d l.owner (first_table d r at)) ≡ false in
        subst P (sym is)
        (none_of _ _ _ _
        (own_page l.owner (live_page d host) own (reached_page 4 (live_page d host) top_reached))
        (own_page l.owner (third_table d host at) own (reached_page 3 (third_table d host at) (third_reached at)))
        (own_page l.owner (second_table d host at) own (reached_page 2 (second_table d host at) (second_reached at)))
        (own_page l.owner (first_table d host at) own (first_shadow at)))

    -- what a walk maps to is in memory
    leads_low : (o : Option Mapped) (word : ℕ) → Leads placed guarded o word → IfSome o (λ page. page.frame < length placed.pages)
    leads_low None word leads = tt
    leads_low (Some to) word leads = leads.0

    pub walk-low : Hosts d placed → (at : ℕ) → IfSome (walk m root at) (λ page. page.frame < length placed.pages)
    walk-low stands at = leads_low (walk m root at) (leaf d host at) (walk-leads d placed pages guarded m root host at stands shadows.local node)
