-- A start of a privileged batch with another address is a command that does the same.
use Rattle.std.proofs.Common.{◌≡◌, ℕ, ◌+◌, ◌%◌, Bool, true, false, List, [], ◌∷◌, length, get_or, Option, None, Some, Ok, cond, eqb, is_some, refl, ap, sym, ◌∙◌, arith}
use Rattle.std.proofs.lemmas.List.{append-nil}
use Rattle.gv_cmd.specs.Allowed.{may_stand, is_allowed}
use Rattle.gv_types.specs.Bits.{has_bit}
use Rattle.gv_cmd.specs.Bits.{bits, dword_address}
use Rattle.gv_cmd.specs.Command.{IsCommand, decoded, shape_of, shape_by}
use Rattle.gv_cmd.specs.Effect.{Operations, effect, effect_of}
use Rattle.gv_cmd.specs.Table.{kind_of}
use Rattle.gv_cmd.specs.declared.kind.Kind.{Kind}
use Rattle.gv_cmd.specs.declared.kind.Kind.TheVariants.{BatchStart}
use Rattle.gv_cmd.specs.declared.stands.Stands.{Stands}
use Rattle.gv_cmd.proofs.Lengths.{decoded-command}
use Rattle.gv_cmd.proofs.Starts.{header_start, length_start, kind_start}
use Rattle.gv_fetch.specs.Items.{is_fetched_start, start_at}

-- two commands with one shape and one kind, but for the address of a privileged batch
pub record SameStart (ws c : List ℕ) (to : ℕ) : Type 0 where
  pub second : Bool
  pub at : ℕ
  pub own : kind_of ws ≡ Some (BatchStart false second at)
  pub copy : kind_of c ≡ Some (BatchStart false second to)
  pub few : length ws ≡ 3
  pub command : IsCommand c

-- what a kind says that is a privileged start
pub record Starts (kind : Option Kind) : Type 0 where
  pub second : Bool
  pub at : ℕ
  pub is : kind ≡ Some (BatchStart false second at)

starts : (kind : Option Kind) → is_fetched_start kind ≡ true → Starts kind
starts (Some (BatchStart false second at)) h = record { second = second; at = at; is = refl }
starts (Some (BatchStart true second at)) h = cc
starts kind h = cc

three : (b : Bool) (n : ℕ) → cond b (Some 3) None ≡ Some n → n ≡ 3
three true n e = cc
three false n e = cc

address : (h to : ℕ) → to % 4 ≡ 0 → dword_address (h ∷ to ∷ 0 ∷ []) 1 ≡ to
address h to aligned = omega arith

fields : (live second l s : Bool) (at x y : ℕ) → Some (BatchStart l s x) ≡ Some (BatchStart live second at) → x ≡ x → Some (BatchStart l s y) ≡ Some (BatchStart live second y)
fields live second l s at x y e _ = cc

copied : (second : Bool) (at : ℕ) (ws : List ℕ) (to : ℕ) → to % 4 ≡ 0 → IsCommand ws → kind_of ws ≡ Some (BatchStart false second at) → SameStart ws (start_at ws to) to
unfolding kind_of
copied second at ws to aligned command is =
    let s = header_start false second at (get_or ws 0 0) ws is in
    let named = length_start (get_or ws 0 0) s in
    let three_dwords : length ws ≡ 3 = three (eqb (bits (get_or ws 0 0) 7 0 + 2) 3) (length ws) (sym named ∙ command.length) in
    let own = sym (kind_start (get_or ws 0 0) ws s) ∙ is in
    let copy = kind_start (get_or ws 0 0) (start_at ws to) s in
    record {
      second = second;
      at = at;
      own = is;
      copy = copy ∙ ap (λ n. Some (BatchStart (has_bit (get_or ws 0 0) 8) (has_bit (get_or ws 0 0) 22) n)) (address (get_or ws 0 0) to aligned)
          ∙ fields false second (has_bit (get_or ws 0 0) 8) (has_bit (get_or ws 0 0) 22) at (dword_address ws 1) to own refl;
      few = three_dwords;
      command = record { length = command.length ∙ ap Some three_dwords; kind = ap is_some copy };
    }

pub start_copied : (ws : List ℕ) (to : ℕ) → to % 4 ≡ 0 → IsCommand ws → is_fetched_start (kind_of ws) ≡ true → SameStart ws (start_at ws to) to
start_copied ws to aligned command is =
    let s = starts (kind_of ws) is in
    copied s.second s.at ws to aligned command s.is

module _ (ws c : List ℕ) (to : ℕ) (same : SameStart ws c to) where
  pub allowed-same : (stands : Stands) (engine : ℕ) → is_allowed c stands engine ≡ is_allowed ws stands engine
  allowed-same stands engine = ap (λ k. may_stand k stands engine) same.copy ∙ sym (ap (λ k. may_stand k stands engine) same.own)

  pub shape-same : get_or c 0 0 ≡ get_or ws 0 0 → shape_of c ≡ shape_of ws
  shape-same header = ap (λ k. shape_by k c) same.copy ∙ ap (λ h. h ∷ 0 ∷ 0 ∷ []) header ∙ sym (ap (λ k. shape_by k ws) same.own)

  no_effect : {S : Type 0} (ops : Operations S) (engine : ℕ) (privileged : Bool) (s : S) (xs : List ℕ) (at : ℕ) → effect_of ops xs engine privileged s (Some (BatchStart false same.second at)) ≡ record { after = s; raise = Some 0 }
  no_effect ops engine true s xs at = refl
  no_effect ops engine false s xs at = refl

  pub effect-same : {S : Type 0} (ops : Operations S) (engine : ℕ) (privileged : Bool) (s : S) → effect ops c engine privileged s ≡ effect ops ws engine privileged s
  effect-same ops engine privileged s =
      ap (effect_of ops c engine privileged s) same.copy
      ∙ no_effect ops engine privileged s c to
      ∙ sym (no_effect ops engine privileged s ws same.at)
      ∙ sym (ap (effect_of ops ws engine privileged s) same.own)

-- a command stands for itself
pub decoded-whole : (c : List ℕ) → IsCommand c → decoded c ≡ Ok (c, length c)
decoded-whole c command = ap decoded (sym (append-nil c)) ∙ decoded-command c [] command
