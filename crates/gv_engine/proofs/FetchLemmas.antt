-- The front command's dwords, one at a time, and its step.
use Rattle.std.proofs.Common.{◌≡◌, ℕ, ◌+◌, ◌*◌, ◌<◌, ◌||◌, ◌++◌, ◌∷◌, [], Bool, false, List, length, take, set, refl, ap, sym, ◌∙◌, add-one, Result}
use Rattle.std.proofs.lemmas.List.{take_more_set}
use Rattle.gv_cmd.specs.Command.{decoded}
use Rattle.gv_cmd.specs.declared.command.Unlisted.{Unlisted}
use Rattle.gv_gpu.specs.Device.{Device, Loaded}
use Rattle.gv_gpu.specs.Physical.{dword_at, dword_strays}
use Rattle.gv_gpu.specs.Step.{dwords_from, dwords_stray, head_read, command_step, front_step}

pub dwords_from-none : (d : Device) (root : ℕ) (global : Bool) (at : ℕ) → dwords_from d root global at 0 ≡ []
unfolding dwords_from
dwords_from-none d root global at = refl

dwords_from-more : (d : Device) (root : ℕ) (global : Bool) (at n : ℕ) → dwords_from d root global at (n + 1) ≡ dwords_from d root global at n ++ dword_at d root global (at + 4 * n) ∷ []
unfolding dwords_from
dwords_from-more d root global at n = rw (add-one n) refl

pub dwords_stray-none : (d : Device) (l : Loaded) (global : Bool) (at : ℕ) → dwords_stray d l global at 0 ≡ false
unfolding dwords_stray
dwords_stray-none d l global at = refl

dwords_stray-more : (d : Device) (l : Loaded) (global : Bool) (at n : ℕ) → dwords_stray d l global at (n + 1) ≡ (dwords_stray d l global at n || dword_strays d l global (at + 4 * n))
unfolding dwords_stray
dwords_stray-more d l global at n = rw (add-one n) refl

pub fetch-step : (d : Device) (root : ℕ) (global : Bool) (at n value : ℕ) (ws : List ℕ) → n < length ws → take n ws ≡ dwords_from d root global at n → value ≡ dword_at d root global (at + 4 * n) → take (n + 1) (set ws n value) ≡ dwords_from d root global at (n + 1)
fetch-step d root global at n value ws within so_far is =
    take_more_set ws n value within
    ∙ ap (λ xs. xs ++ value ∷ []) so_far
    ∙ ap (λ v. dwords_from d root global at n ++ v ∷ []) is
    ∙ sym (dwords_from-more d root global at n)

pub stray-step : (d : Device) (l : Loaded) (global : Bool) (at n : ℕ) (strayed stray both : Bool) → strayed ≡ dwords_stray d l global at n → stray ≡ dword_strays d l global (at + 4 * n) → both ≡ (strayed || stray) → both ≡ dwords_stray d l global at (n + 1)
stray-step d l global at n strayed stray both so_far is joined =
    joined
    ∙ ap (λ b. strayed || b) is
    ∙ ap (λ b. b || dword_strays d l global (at + 4 * n)) so_far
    ∙ sym (dwords_stray-more d l global at n)

-- what is fetched and decoded makes the step
pub front_step-is : (d : Device) (engine : ℕ) (l : Loaded) (ws : List ℕ) (strayed : Bool) (r : Result (List ℕ × ℕ) Unlisted)
    → ws ≡ (head_read d l).words → strayed ≡ (head_read d l).strayed → r ≡ decoded ws
    → command_step (record { device = d; engine = engine; context = l; strayed = strayed }) r ≡ front_step d engine l
unfolding front_step
front_step-is d engine l ws strayed r words strays is =
    ap (command_step (record { device = d; engine = engine; context = l; strayed = strayed })) (is ∙ ap decoded words)
    ∙ ap (λ b. command_step (record { device = d; engine = engine; context = l; strayed = b }) (decoded (head_read d l).words)) strays
