-- A value that lies in memory is lent for one call, and comes back when the call is over.
use Rattle.std.proofs.Common.{ℕ, List, [], ◌∷◌}
use seplogic.Ra.Ura.{Ura}
use base.Fml.{Lft, Fml, Incl, Incl-refl, flent, flft}
use base.Fraction.{full_share}
use denote.Memory.{part_at, hidden_shr}
use denote.RattleType.{RattleType}
use denote.Shares.{Shares}
use types.Kit.{Goal, Soaks, Seq, Step, step, Item, ‵, ◌⊛◌, later, ◌$◌, move, use2, split, await}
use types.Logic.{Logic}
use types.Tokens.{lft_new, lft_end, bor_new, lent_back}

-- the lifetime of the call
abbrev pub call : ℕ → Lft
call α = α ∷ []

-- its token
abbrev pub token : ℕ → Fml
token α = flft (call α) full_share

-- a value as it lies in memory, which is due again when the lifetime has ended
abbrev pub held : (R : RattleType) → R.Denot → ℕ → ℕ → Fml
held R x b o = part_at R full_share x b o

abbrev pub due : (R : RattleType) → R.Denot → ℕ → ℕ → ℕ → Fml
due R x b o α = flent (call α) (held R x b o)

module _ {M : Type 1} {𝓤 : Ura M} {𝓛 : Logic 𝓤} {K : Type 0} {Γ : List (Item 𝓤)} {G : Goal 𝓤 𝓛.H} (t : K) (z : Soaks G) (R : RattleType) (x : R.Denot) (b o : ℕ) where
  -- the token and what is due come first, then the `&` that is made
  pub lent : Shares 𝓛 R R.lives → ((α : ℕ) → Incl (call α) R.lives)
      → ((α : ℕ) → Seq K 𝓛 (‵ (hidden_shr R (call α) x b o) ∷ ‵ (token α) ∷ ‵ (due R x b o α) ∷ Γ) G)
      → Seq K 𝓛 (‵ (held R x b o) ∷ Γ) G
  lent shared lives k = lft_new t z (λ α.
      let seen = hidden_shr R (call α) x b o in
      move t (1 ∷ []) $ bor_new t z (call α) $ move t (0 ∷ 2 ∷ []) $
      use2 𝓛 (later (‵ seen ⊛ ‵ (token α))) (shared x (call α) ((call α, full_share) ∷ []) b o (lives α) (Incl-refl (call α))) $
      await t z $ split t $ k α)

  pub returned : (α : ℕ) → Step K 𝓛 (‵ (held R x b o) ∷ Γ) G (‵ (token α) ∷ ‵ (due R x b o α) ∷ Γ) G
  returned α = step (λ s. lft_end t z $ lent_back t z $ s)
