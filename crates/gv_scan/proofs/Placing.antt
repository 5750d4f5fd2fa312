-- A layout whose batches stand elsewhere is still the copy of its items.
use Rattle.std.proofs.Common.{◌≡◌, ℕ, ◌+◌, ◌*◌, ◌%◌, Bool, true, false, List, [], ◌∷◌, ◌++◌, map, length, length-append, Option, Some, refl, ap, sym, subst, ◌∙◌, arith}
use Rattle.std.specs.List.{concat}
use Rattle.std.specs.Bool.{MatchBool}
use Rattle.std.proofs.lemmas.List.{map-append}
use Rattle.gv_cmd.specs.Command.{IsCommand}
use Rattle.gv_cmd.specs.Table.{kind_of}
use Rattle.gv_cmd.specs.declared.kind.Kind.{Kind}
use Rattle.gv_cmd.specs.declared.kind.Kind.TheVariants.{BatchStart}
use Rattle.gv_cmd.specs.declared.stands.Stands.{Stands}
use Rattle.gv_cmd.specs.declared.stands.Stands.TheVariants.{Ring}
use Rattle.gv_fetch.specs.Items.{Items, none, command, batch, inside, is_fetched_start, is_end, MayAllStand, start_at}
use Rattle.gv_scan.specs.Layout.{Layout, Begins, Copies, RingAt, AreCopies, placed_by, placed, placed_layout}
use Rattle.gv_fetch.proofs.Readdressed.{SameStart, start_copied}

-- what isn't a start of a privileged batch stays
stays : (base : ℕ) (c : List ℕ) (k : Option Kind) → is_fetched_start k ≡ false → placed_by base c k ≡ c
stays base c (Some (BatchStart false second at)) is = cc
stays base c k is = refl

-- a start keeps its length
long-by : (base : ℕ) (c : List ℕ) (b : Bool) → is_fetched_start (kind_of c) ≡ b → IsCommand c → length (placed base c) ≡ length c
long-by base c true is good =
    let s = start_copied c 0 refl good is in
    ap (λ k. length (placed_by base c k)) s.own ∙ sym s.few
long-by base c false is good = ap length (stays base c (kind_of c) is)

length-placed : (base : ℕ) (c : List ℕ) → IsCommand c → length (placed base c) ≡ length c
length-placed base c good = long-by base c (is_fetched_start (kind_of c)) refl good

pub length-all : (base : ℕ) (cs : List (List ℕ)) → AreCopies cs → length (concat (map (placed base) cs)) ≡ length (concat cs)
length-all base [] all = refl
length-all base (c ∷ cs) all =
    length-append (placed base c) (concat (map (placed base) cs))
    ∙ ap (λ n. n + length (concat (map (placed base) cs))) (length-placed base c all.0.command)
    ∙ ap (λ n. length c + n) (length-all base cs all.1)
    ∙ sym (length-append c (concat cs))

pub commands-front : (xs ys : List (List ℕ)) → AreCopies (xs ++ ys) → AreCopies xs
commands-front [] ys all = tt
commands-front (x ∷ xs) ys all = (all.0, commands-front xs ys all.1)

module _ (base : ℕ) (p : Layout) (offsets : p.base ≡ 0) (batches : AreCopies p.batches) where
  abbrev there : Layout
  there = placed_layout base p

  begins-placed : (from at to there : ℕ) (commands : List (List ℕ)) (rest : List (List ℕ)) → there + from ≡ to + at → AreCopies commands → Begins from commands at rest → Begins to (map (placed base) commands) there (map (placed base) rest)
  begins-placed from at to there commands rest far all b =
      let front = commands-front b.before rest (subst AreCopies b.split all) in
      record {
        before = map (placed base) b.before;
        split = ap (map (placed base)) b.split ∙ map-append (placed base) b.before rest;
        count = let n = b.count in let l = length-all base b.before front in omega arith;
      }

  start-placed : (ws c : List ℕ) (to : ℕ) → c ≡ start_at ws to → SameStart ws (start_at ws to) to → placed base c ≡ start_at ws (base + to)
  start-placed ws c to is s = ap (placed base) is ∙ ap (placed_by base (start_at ws to)) s.copy

  aligned : (n to : ℕ) → p.base ≡ 0 → to ≡ p.base + 4 * n → to % 4 ≡ 0
  aligned n to zero e = omega arith

  behind-placed : (stands : Stands) (engine : ℕ) (more : Items) (cs behind : List (List ℕ)) (b : Bool)
      → (MayAllStand stands engine more → Copies base there.batches more (map (placed base) cs) (map (placed base) behind))
      → Copies p.base p.batches more cs behind → MatchBool b (more ≡ none) (MayAllStand stands engine more) → Copies base there.batches more (map (placed base) cs) (map (placed base) behind)
  behind-placed stands engine more cs behind true go copies last =
      let P : Items → Type 0 = λ m. Copies p.base p.batches m cs behind in
      let Q : Items → Type 0 = λ m. Copies base there.batches m (map (placed base) cs) (map (placed base) behind) in
      let same : cs ≡ behind = subst P last copies in
      let end : Q none = ap (map (placed base)) same in
      subst Q (sym last) end
  behind-placed stands engine more cs behind false go copies rest = go rest

  pub copies-placed : (stands : Stands) (engine : ℕ) (items : Items) (cs behind : List (List ℕ)) → MayAllStand stands engine items → Copies p.base p.batches items cs behind → Copies base there.batches items (map (placed base) cs) (map (placed base) behind)
  copies-placed stands engine none cs behind may copies = ap (map (placed base)) copies
  copies-placed stands engine (command ws more) [] behind may copies = copies
  copies-placed stands engine (command ws more) (c ∷ cs) behind may copies = (
    ap (placed base) copies.0 ∙ stays base ws (kind_of ws) may.1,
    behind-placed stands engine more cs behind (is_end (kind_of ws)) (λ rest. copies-placed stands engine more cs behind rest copies.1) copies.1 may.2,
  )
  copies-placed stands engine (batch ws items more) [] behind may copies = copies
  copies-placed stands engine (batch ws items more) (c ∷ cs) behind may copies =
      let s = copies.0 in
      let fit = aligned (length (concat s.begins.before)) s.to offsets s.begins.count in
      let same = start_copied ws s.to fit may.0.command may.1 in (
        record {
          to = base + s.to;
          copy = start-placed ws c s.to s.copy same;
          rest = map (placed base) s.rest;
          begins = begins-placed p.base s.to base (base + s.to) p.batches s.rest (let o = offsets in omega arith) batches s.begins;
          behind = map (placed base) s.behind;
          inside = copies-placed (inside stands) engine items s.rest s.behind may.2 s.inside;
        },
        copies-placed stands engine more cs behind may.3 copies.1,
      )

  pub ring-placed : (engine at : ℕ) (items : Items) → AreCopies p.ring → MayAllStand Ring engine items → RingAt p at items → RingAt there at items
  ring-placed engine at items ring may r = record {
    rest = map (placed base) r.rest;
    begins = begins-placed 0 at 0 at p.ring r.rest (let z : at + 0 ≡ 0 + at = omega arith in z) ring r.begins;
    copies = copies-placed Ring engine items r.rest [] may r.copies;
  }
