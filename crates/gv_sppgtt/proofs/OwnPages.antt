-- The pages of the nodes, which are the tables' part of the device: a node comes and goes with its page.
use Rattle.std.proofs.Common.{ℕ, ◌≡◌, ◌≢◌, Bool, true, false, ◌&&◌, ◌||◌, eqb, cond, List, [], ◌∷◌, Option, None, Some, is_some, refl, sym, ap, ◌∙◌, subst, ⊎_elim}
use Rattle.std.specs.List.{list_any, flat_map}
use Rattle.std.specs.FinMap.{keys, contains_key-keys}
use Rattle.std.specs.Ordering.{nat_cmp, eq_by_cmp}
use Rattle.std.proofs.lemmas.Bool.{cases_eq, eqb-true, eq-eqb, ne_eqb}
use Rattle.std.proofs.lemmas.List.Folds.{list_any-append}
use Rattle.std.proofs.lemmas.List.Concat.{flat_map-cons}
use Rattle.gv_types.specs.Maps.{put}
use Rattle.gv_types.specs.declared.ids.Label.{Label}
use Rattle.gv_types.specs.Memory.{zero_words}
use Rattle.gv_gpu.specs.Device.{Device, added, released, poked}
use Rattle.gv_gpu.specs.Part.{Within, outside, is_named, is_shadow_of, tables_part, shadow_label}
use Rattle.gv_gpu.proofs.Changed.{outside-poked}
use Rattle.gv_nodes.specs.declared.nodes.Node.{Node}
use Rattle.gv_nodes.specs.NodeMap.{NodeMap, node_at, AreNodes}
use Rattle.gv_nodes.specs.NodeOf.{node_of}
use Rattle.gv_nodes.proofs.NodeOf.{node_of-is, node_of-from, same_number}
use Rattle.gv_sppgtt.specs.Sound.{page_of_node, pages_in}
use Rattle.gv_sppgtt.specs.State.{page_list, own_in, shadow_part}

-- a key's node has the page
record HasPage (s : NodeMap) (n : ℕ) : Type 0 where
  key : ℕ
  node : Node
  under : node_at s key ≡ Some node
  on : node.page ≡ n

module _ (s : NodeMap) (n : ℕ) where
  abbrev pages_by : List ℕ → List ℕ
  pages_by ks = flat_map (λ key. page_list (node_at s key)) ks

  expand : (k : ℕ) (ks : List ℕ) → is_named (pages_by (k ∷ ks)) n ≡ (is_named (page_list (node_at s k)) n || is_named (pages_by ks) n)
  expand k ks = ap (λ (l : List ℕ). is_named l n) (flat_map-cons (λ key. page_list (node_at s key)) k ks) ∙ list_any-append (λ page. eqb page n) (page_list (node_at s k)) (pages_by ks)

  named-from : (ks : List ℕ) → is_named (pages_by ks) n ≡ true → HasPage s n
  named-from [] h = cc
  named-from (k ∷ ks) h = at (named-from ks) (node_at s k) refl (sym (expand k ks) ∙ h)
    where
      by : (node : Node) → node_at s k ≡ Some node → (is_named (pages_by ks) n ≡ true → HasPage s n) → (b : Bool) → eqb node.page n ≡ b → ((b || false) || is_named (pages_by ks) n) ≡ true → HasPage s n
      by node is again true e h = record { key = k; node = node; under = is; on = eqb-true node.page n e }
      by node is again false e h = again h

      at : (is_named (pages_by ks) n ≡ true → HasPage s n) → (o : Option Node) → node_at s k ≡ o → (is_named (page_list o) n || is_named (pages_by ks) n) ≡ true → HasPage s n
      at again None is h = again h
      at again (Some node) is h = by node is again (eqb node.page n) refl h

  named-by : (ks : List ℕ) (key : ℕ) (node : Node) → list_any (eq_by_cmp nat_cmp key) ks ≡ true → node_at s key ≡ Some node → node.page ≡ n → is_named (pages_by ks) n ≡ true
  named-by [] key node h is on = cc
  named-by (k ∷ ks) key node h is on = expand k ks ∙ at (λ e. named-by ks key node e is on) (eq_by_cmp nat_cmp key k) refl h
    where
      later : (b x : Bool) → x ≡ true → (b || x) ≡ true
      later true x e = refl
      later false x e = e

      first : (o : Option Node) (x : Bool) → o ≡ Some node → (is_named (page_list o) n || x) ≡ true
      first o x e = ap (λ (q : Option Node). is_named (page_list q) n || x) e ∙ ap (λ b. (b || false) || x) (eq-eqb node.page n on)

      at : (list_any (eq_by_cmp nat_cmp key) ks ≡ true → is_named (pages_by ks) n ≡ true) → (b : Bool) → eq_by_cmp nat_cmp key k ≡ b → (b || list_any (eq_by_cmp nat_cmp key) ks) ≡ true → (is_named (page_list (node_at s k)) n || is_named (pages_by ks) n) ≡ true
      at again true e h = first (node_at s k) (is_named (pages_by ks) n) (ap (node_at s) (sym (same_number key k e)) ∙ is)
      at again false e h = later (is_named (page_list (node_at s k)) n) (is_named (pages_by ks) n) (again h)

-- a page of the list is that of a node, and the other way round
pub own-page : (s : NodeMap) (n : ℕ) → AreNodes s → is_named (own_in s) n ≡ true → (k f : ℕ) × (pages_in s k f ≡ Some n)
unfolding own_in
own-page s n are h =
    let at = named-from s n (keys s.nodes) h in
    (at.node.level, at.node.frame, ap page_of_node (node_of-is s at.node.level at.node.frame are at.key at.node at.under refl refl) ∙ ap (λ p. Some p) at.on)

pub page-own : (s : NodeMap) (k f n : ℕ) → pages_in s k f ≡ Some n → is_named (own_in s) n ≡ true
unfolding own_in
page-own s k f n h = by (node_of s k f) refl h
  where
    by : (o : Option Node) → node_of s k f ≡ o → page_of_node o ≡ Some n → is_named (own_in s) n ≡ true
    by None is e = cc
    by (Some node) is e =
        let at = node_of-from s k f node is in
        let on : node.page ≡ n = cc in
        named-by s n (keys s.nodes) at.0 node (sym (contains_key-keys s.nodes at.0) ∙ ap is_some at.1.0) at.1.0 on

both_ways : (a b : Bool) → (a ≡ true → b ≡ true) → (b ≡ true → a ≡ true) → a ≡ b
both_ways true b there back = sym (there refl)
both_ways false true there back = back refl
both_ways false false there back = refl

module _ (s r : NodeMap) (before : AreNodes s) (after : AreNodes r) where
  pub own-same : ((k f : ℕ) → pages_in r k f ≡ pages_in s k f) → (n : ℕ) → is_named (own_in r) n ≡ is_named (own_in s) n
  own-same same n = both_ways (is_named (own_in r) n) (is_named (own_in s) n)
      (λ h. let at = own-page r n after h in page-own s at.0 at.1 n (sym (same at.0 at.1) ∙ at.2))
      (λ h. let at = own-page s n before h in page-own r at.0 at.1 n (same at.0 at.1 ∙ at.2))

  -- r has one node more
  module _ (level frame page : ℕ) (here : pages_in r level frame ≡ Some page) (absent : pages_in s level frame ≡ None) (others : (k f : ℕ) → (k ≡ level → f ≡ frame → ⊥) → pages_in r k f ≡ pages_in s k f) where
    pub own-here : is_named (own_in r) page ≡ true
    own-here = page-own r level frame page here

    pub own-others : (n : ℕ) → n ≢ page → is_named (own_in r) n ≡ is_named (own_in s) n
    own-others n other = both_ways (is_named (own_in r) n) (is_named (own_in s) n)
        (λ h.
        let at = own-page r n after h in
        page-own s at.0 at.1 n (sym (others at.0 at.1 (λ a b.
        let clash : Some page ≡ Some n = sym here ∙ sym (ap (λ x. pages_in r x at.1) a ∙ ap (pages_in r level) b) ∙ at.2 in
        let is : n ≡ page = cc in
        other is)) ∙ at.2))
        (λ h.
        let at = own-page s n before h in
        page-own r at.0 at.1 n (others at.0 at.1 (λ a b.
        let clash : None ≡ Some n = sym absent ∙ sym (ap (λ x. pages_in s x at.1) a ∙ ap (pages_in s level) b) ∙ at.2 in
        cc) ∙ at.2))

-- ---- the part of the device

pub part-same : (g : ℕ) (a b : List ℕ) → ((n : ℕ) → is_named b n ≡ is_named a n) → tables_part g b ≡ tables_part g a
part-same g a b same = λ i. record { page = λ n l. same n i && is_shadow_of g l; entry = λ _. false; engine = λ _. false; spare = false }

pub part-within : (g : ℕ) (own : List ℕ) → Within (tables_part g own) (shadow_part g)
part-within g own = record { page = λ n l h. right (is_named own n) (is_shadow_of g l) h; entry = λ i h. h; engine = λ e h. h; spare = λ h. h }
  where
    right : (a b : Bool) → (a && b) ≡ true → b ≡ true
    right true b h = h
    right false b h = cc

nothing : {A : Type 0} (b : Bool) (x y : A) → y ≡ x → cond b x y ≡ x
nothing true x y e = refl
nothing false x y e = e

own_label : (g : ℕ) → is_shadow_of g (Some (shadow_label g)) ≡ true
own_label g = ap (λ b. b && true) (eq-eqb g g refl)

module _ (g : ℕ) (a b : List ℕ) (d : Device) (page : ℕ) where
  -- a field by page that is put at the page, under each test of the field's own side
  put_same : {A : Type 0} (f : ℕ → A) (none v : A) (t u : ℕ → Option Label)
      → cond (is_named b page && is_shadow_of g (u page)) none v ≡ cond (is_named a page && is_shadow_of g (t page)) none (f page)
      → ((q : ℕ) → q ≢ page → u q ≡ t q) → ((q : ℕ) → q ≢ page → is_named b q ≡ is_named a q)
      → (q : ℕ) → cond (is_named b q && is_shadow_of g (u q)) none (put f page v q) ≡ cond (is_named a q && is_shadow_of g (t q)) none (f q)
  put_same f none v t u here labels owns q = ⊎_elim
      (λ same. subst (λ x. cond (is_named b x && is_shadow_of g (u x)) none (put f page v x) ≡ cond (is_named a x && is_shadow_of g (t x)) none (f x)) (sym same)
      (ap (λ c. cond (is_named b page && is_shadow_of g (u page)) none (cond c v (f page))) (eq-eqb page page refl) ∙ here))
      (λ other.
      ap (λ c. cond (is_named b q && is_shadow_of g (u q)) none (cond c v (f q))) (ne_eqb q page other)
      ∙ ap (λ l. cond (is_named b q && is_shadow_of g l) none (f q)) (labels q other)
      ∙ ap (λ c. cond (c && is_shadow_of g (t q)) none (f q)) (owns q other))
      (cases_eq q page)

  put_other : (l : Option Label) (q : ℕ) → q ≢ page → put d.label page l q ≡ d.label q
  put_other l q other = ap (λ c. cond c l (d.label q)) (ne_eqb q page other)

  put_here : (l : Option Label) → put d.label page l page ≡ l
  put_here l = ap (λ c. cond c l (d.label page)) (eq-eqb page page refl)

  blank : {A : Type 0} (none v : A) → is_named b page ≡ true → cond (is_named b page && is_shadow_of g (put d.label page (Some (shadow_label g)) page)) none v ≡ none
  blank none v is = ap (λ l. cond (is_named b page && is_shadow_of g l) none v) (put_here (Some (shadow_label g))) ∙ ap (λ c. cond (c && is_shadow_of g (Some (shadow_label g))) none v) is ∙ ap (λ c. cond c none v) (own_label g)

  pub own-added : d.label page ≡ None → d.words page ≡ [] → is_named b page ≡ true → ((q : ℕ) → q ≢ page → is_named b q ≡ is_named a q)
      → outside (tables_part g b) (added d page (shadow_label g)) ≡ outside (tables_part g a) d
  own-added free empty here others = λ i. record (outside (tables_part g a) d) {
    label = λ q. put_same d.label None (Some (shadow_label g)) d.label (put d.label page (Some (shadow_label g)))
        (blank None (Some (shadow_label g)) here ∙ sym (nothing (is_named a page && is_shadow_of g (d.label page)) None (d.label page) free)) (put_other (Some (shadow_label g))) others q i;
    words = λ q. put_same d.words [] zero_words d.label (put d.label page (Some (shadow_label g)))
        (blank [] zero_words here ∙ sym (nothing (is_named a page && is_shadow_of g (d.label page)) [] (d.words page) empty)) (put_other (Some (shadow_label g))) others q i;
  }

  gone : {A : Type 0} (none v : A) → d.label page ≡ Some (shadow_label g) → is_named a page ≡ true → cond (is_named a page && is_shadow_of g (d.label page)) none v ≡ none
  gone none v label is = ap (λ l. cond (is_named a page && is_shadow_of g l) none v) label ∙ ap (λ c. cond (c && is_shadow_of g (Some (shadow_label g))) none v) is ∙ ap (λ c. cond c none v) (own_label g)

  pub own-released : d.label page ≡ Some (shadow_label g) → is_named a page ≡ true → ((q : ℕ) → q ≢ page → is_named b q ≡ is_named a q)
      → outside (tables_part g b) (released d page) ≡ outside (tables_part g a) d
  own-released label here others = λ i. record (outside (tables_part g a) d) {
    label = λ q. put_same d.label None None d.label (put d.label page None)
        (nothing (is_named b page && is_shadow_of g (put d.label page None page)) None None refl ∙ sym (gone None (d.label page) label here)) (put_other None) others q i;
    words = λ q. put_same d.words [] [] d.label (put d.label page None)
        (nothing (is_named b page && is_shadow_of g (put d.label page None page)) [] [] refl ∙ sym (gone [] (d.words page) label here)) (put_other None) others q i;
  }

pub own-poked : (g : ℕ) (a : List ℕ) (d : Device) (page index value : ℕ) → d.label page ≡ Some (shadow_label g) → is_named a page ≡ true → outside (tables_part g a) (poked d page index value) ≡ outside (tables_part g a) d
own-poked g a d page index value label is = outside-poked (tables_part g a) d page (ap (λ l. is_named a page && is_shadow_of g l) label ∙ ap (λ c. c && is_shadow_of g (Some (shadow_label g))) is ∙ own_label g) index value
