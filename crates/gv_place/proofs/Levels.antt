-- The front item of a level: its copy is what an engine fetches there, and the items behind it stand
-- behind the copy.
use Rattle.std.proofs.Common.{◌≡◌, ℕ, ◌+◌, ◌*◌, ◌%◌, true, false, List, [], ◌∷◌, length, ap, sym, subst, ◌∙◌, arith}
use Rattle.std.specs.List.{concat}
use Rattle.gv_cmd.specs.Table.{kind_of}
use Rattle.gv_cmd.specs.Command.{IsCommand}
use Rattle.gv_cmd.specs.declared.stands.Stands.{Stands}
use Rattle.gv_cmd.proofs.Lengths.{IsCommand-length}
use Rattle.gv_gpu.specs.Device.{Device, Loaded}
use Rattle.gv_gpu.specs.Step.{head_read_from}
use Rattle.gv_fetch.specs.Items.{Items, none, command, batch, is_fetched_start, MayStand, MayAllStand}
use Rattle.gv_fetch.specs.Items.{start_at}
use Rattle.gv_scan.specs.Layout.{Layout, Begins, Started, Copies, BatchAt}
use Rattle.gv_fetch.specs.Left.{words_of, started, behind, is_none}
use Rattle.gv_fetch.proofs.Readdressed.{SameStart, start_copied}
use Rattle.gv_sring.specs.Copy.{HasCopy}
use Rattle.gv_place.proofs.Reading.{dword-here, shown-here, any-root, fetched-are, fetched-strays}
use Rattle.gv_place.proofs.Strays.{dwords-no-stray}

-- How a copy stands for a command: it is the command, or it starts the copy of the batch.
pub data FrontCopy (p : Layout) (ws c : List ℕ) (items : Items) : Type 0 where
  same : c ≡ ws → is_fetched_start (kind_of ws) ≡ false → FrontCopy p ws c items
  start : (to : ℕ) → c ≡ start_at ws to → SameStart ws c to → BatchAt p.base p.batches to items → FrontCopy p ws c items

-- the front of a level's items
pub record Front (p : Layout) (base : ℕ) (commands : List (List ℕ)) (at : ℕ) (items : Items) (after : List (List ℕ)) : Type 0 where
  pub c : List ℕ
  pub rest : List (List ℕ)
  pub begins : Begins base commands at (c ∷ rest)
  pub copies : Copies p.base p.batches (behind items) rest after
  pub own : IsCommand (words_of items)
  pub command : IsCommand c
  pub long : length c ≡ length (words_of items)
  pub copy : FrontCopy p (words_of items) c (started items)

aligned : (base n to : ℕ) → base % 4 ≡ 0 → to ≡ base + 4 * n → to % 4 ≡ 0
aligned base n to h e = omega arith

module _ (p : Layout) (fours : p.base % 4 ≡ 0) (stands : Stands) (engine base : ℕ) (commands : List (List ℕ)) (at : ℕ) (after : List (List ℕ)) where
  -- a plain command is its own copy
  plain : (ws c : List ℕ) (more : Items) (rest : List (List ℕ)) → Begins base commands at (c ∷ rest) → c ≡ ws → Copies p.base p.batches more rest after → MayStand stands engine ws → is_fetched_start (kind_of ws) ≡ false → Front p base commands at (command ws more) after
  plain ws c more rest begins is copies may not = record {
    c = c;
    rest = rest;
    begins = begins;
    copies = copies;
    own = may.command;
    command = subst IsCommand (sym is) may.command;
    long = ap length is;
    copy = same is not;
  }

  starting : (ws c : List ℕ) (items more : Items) (rest : List (List ℕ)) → Begins base commands at (c ∷ rest) → Started p.base p.batches ws c (λ r a. Copies p.base p.batches items r a) → Copies p.base p.batches more rest after → MayStand stands engine ws → is_fetched_start (kind_of ws) ≡ true → Front p base commands at (batch ws items more) after
  starting ws c items more rest begins s copies may is =
      let fit : s.to % 4 ≡ 0 = aligned p.base (length (concat s.begins.before)) s.to fours s.begins.count in
      let own = start_copied ws s.to fit may.command is in
      let P : List ℕ → Type 0 = λ x. SameStart ws x s.to in
      let mine = subst P (sym s.copy) own in
      record {
        c = c;
        rest = rest;
        begins = begins;
        copies = copies;
        own = may.command;
        command = mine.command;
        long = ap length s.copy ∙ sym mine.few;
        copy = start s.to s.copy mine (record { rest = s.rest; begins = s.begins; behind = s.behind; copies = s.inside });
      }

  pub front-of : (items : Items) (rest : List (List ℕ)) → is_none items ≡ false → Begins base commands at rest → Copies p.base p.batches items rest after → MayAllStand stands engine items → Front p base commands at items after
  front-of none rest some begins copies may = cc
  front-of (command ws more) [] some begins copies may = absurd copies
  front-of (command ws more) (c ∷ rest) some begins copies may = plain ws c more rest begins copies.0 copies.1 may.0 may.1
  front-of (batch ws items more) [] some begins copies may = absurd copies
  front-of (batch ws items more) (c ∷ rest) some begins copies may = starting ws c items more rest begins copies.0 copies.1 may.0 may.1

  -- what is fetched there
  pub fetched-front : (d : Device) (image : ℕ) (l : Loaded) (items : Items) (f : Front p base commands at items after) → HasCopy d l.owner image base (concat commands) → (head_read_from d l true at).words ≡ f.c
  fetched-front d image l items f holds =
      fetched-are d l true at f.c (λ k h. any-root d l.root (at + 4 * k) ∙ dword-here base commands at f.c f.rest f.begins d l.owner image holds k h)
      (IsCommand-length f.c f.command).0 f.command.length

  front-aligned : (base n at : ℕ) → base % 4 ≡ 0 → at ≡ base + 4 * n → at % 4 ≡ 0
  front-aligned base n at h e = omega arith

  pub fetched-clean : (d : Device) (image : ℕ) (l : Loaded) (items : Items) (f : Front p base commands at items after) → base % 4 ≡ 0 → HasCopy d l.owner image base (concat commands) → (head_read_from d l true at).strayed ≡ false
  fetched-clean d image l items f fit holds =
      fetched-strays d l true at f.c (λ k h. any-root d l.root (at + 4 * k) ∙ dword-here base commands at f.c f.rest f.begins d l.owner image holds k h)
      (IsCommand-length f.c f.command).0 f.command.length
      ∙ dwords-no-stray d l image at (length f.c) (front-aligned base (length (concat f.begins.before)) at fit f.begins.count) (λ k h. shown-here base commands at f.c f.rest f.begins d l.owner image holds k h)
