-- What the heap answered: a block, or none. An answer owns nothing, so only its machine value counts.
use Rattle.std.proofs.Common.{◌≡◌, ℕ, List, [], ◌∷◌, ap, ◌∙◌, Ok, Err, Result}
use Rattle.std.proofs.alloc.AllocError.TheLaws as refusal
use Rattle.std.specs.Allocator.{block_if_ok}
use Rattle.std.specs.contracts.alloc.AllocError as Refusal
use Rattle.std.specs.contracts.result.Result as Answers
use Rattle.std.specs.declared.alloc.AllocError.{AllocError}
use seplogic.Ra.Ura.{Ura}
use base.Fml.{Fml, fsep, froom}
use base.Logic.{never, fst∗}
use denote.Enum.Laws.{Laws, val, tells}
use denote.Laws.{Is, shows}
use denote.RattleType.{RattleType}
use denote.RawPtr.{Ptr, RawPtr, block_ptr, null_ptr, ptr_val, room_for, in_a_block}
use denote.Steps.{facts, only}
use denote.Param.Laws.{row_laws}
use denote.Struct.Laws.{RawPtr-laws}
use denote.Struct.Laws as struct
use mir.Syntax.{Ty}
use mir.Val.{Val, vstruct, vcons, vnil}
use types.Kit.{Goal, Seq, Item, ‵, ◌$◌, drop, fsplit}
use types.Logic.{Logic, sem}
use types.Match.{live}

abbrev pub Answer : RattleType
Answer = Answers.the_row RawPtr Refusal.the_row

abbrev laws : Laws (Answers.the_type RawPtr Refusal.the_row)
laws = ((RawPtr-laws, tt), ((row_laws Refusal.the_row refusal.the_row_laws (record { val = λ _. vstruct vnil; tells = struct.tells Refusal.the_type refusal.the_laws }), tt), tt))

abbrev pub answer_val : Result Ptr AllocError → Val
answer_val r = val (Answers.the_type RawPtr Refusal.the_row) laws r

abbrev given_val : Ptr → Val
given_val p = live 0 (vcons (ptr_val p) vnil)

abbrev pub refused_val : Val
refused_val = live 1 (vcons (vstruct vnil) vnil)

module _ {M : Type 1} {𝓤 : Ura M} {𝓛 : Logic 𝓤} {K : Type 0} {Γ : List (Item 𝓤)} {G : Goal 𝓤 𝓛.H} where
  -- by what the answer is, once its value is known
  by_case : K → (free : Ty → Ptr → Fml) (τ : Ty) (v : Val) (r : Result Ptr AllocError) → v ≡ answer_val r
      → ((b o : ℕ) → v ≡ given_val (block_ptr b o) → Seq K 𝓛 (‵ (froom τ b o) ∷ ‵ (free τ (block_ptr b o)) ∷ Γ) G)
      → (v ≡ refused_val → Seq K 𝓛 Γ G)
      → Seq K 𝓛 (‵ (block_if_ok free τ r) ∷ Γ) G
  by_case t free τ v (Ok p) e given refused =
      in_a_block t p (λ at. fsep (room_for τ at) (free τ at)) (fst∗ 𝓤 (never 𝓤) (sem 𝓛 (free τ null_ptr)))
      (λ b o at. fsplit t $ given b o (e ∙ ap given_val at))
  by_case t free τ v (Err n) e given refused = drop t $ refused e

  pub answered : K → (free : Ty → Ptr → Fml) (τ : Ty) (v : Val) (r : Result Ptr AllocError)
      → ((b o : ℕ) → v ≡ given_val (block_ptr b o) → Seq K 𝓛 (‵ (froom τ b o) ∷ ‵ (free τ (block_ptr b o)) ∷ Γ) G)
      → (v ≡ refused_val → Seq K 𝓛 Γ G)
      → Seq K 𝓛 (‵ (Answer.own_val r (v ∷ [])) ∷ ‵ (block_if_ok free τ r) ∷ Γ) G
  answered t free τ v r given refused =
      facts t Answer (Is Answer) (shows 𝓛 Answer) r (v ∷ [])
      (λ is. by_case t free τ v r (ap only (tells (Answers.the_type RawPtr Refusal.the_row) laws r (v ∷ []) is)) given refused)
