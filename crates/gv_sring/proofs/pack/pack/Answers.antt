use Rattle.std.proofs.Common.{List, ◌≡◌, ℕ, ◌+◌, ◌*◌, ◌/◌, ◌^◌, ◌<◌, get_or, sym, ap, subst, ◌∙◌, arith, ⊎_elim, min}
use Rattle.std.specs.Prelude.{IsSome}
use Rattle.std.proofs.lemmas.Bool.{cases_lt, cases_eq}
use Rattle.gv_gpu.specs.Device.{Device, poked}
use Rattle.gv_sring.specs.Packing.{packed_into, words_in, HoldsPart}
use Rattle.gv_sring.proofs.Packed.{packed-none, packed-more, packed-holds}
use Rattle.gv_sring.proofs.pack.pack.Goals as goal

pub loop-j-init : goal.loop-j-init
loop-j-init g c = record {
  live = c.requires.live;
  device = sym (packed-none (g.G.Gpu.state c.args.gpu.now) c.args.page c.args.words.now (512 * c.args.part));
  small = λ k less. absurd (omega arith);
}

-- two dwords more
both : (words : List ℕ) (part j : ℕ) → ((k : ℕ) → k < 2 * j → get_or words (1024 * part + k) 0 < 2 ^ 32)
    → get_or words (2 * (512 * part + j)) 0 < 2 ^ 32 → get_or words (2 * (512 * part + j) + 1) 0 < 2 ^ 32
    → (k : ℕ) → k < 2 * (j + 1) → get_or words (1024 * part + k) 0 < 2 ^ 32
both words part j before low high k less = ⊎_elim (before k) (λ past. ⊎_elim
    (λ is.
    let P : ℕ → Type 0 = λ n. get_or words n 0 < 2 ^ 32 in
    let here : 2 * (512 * part + j) ≡ 1024 * part + k = omega arith in
    subst P here low)
    (λ differ.
    let P : ℕ → Type 0 = λ n. get_or words n 0 < 2 ^ 32 in
    let here : 2 * (512 * part + j) + 1 ≡ 1024 * part + k = omega arith in
    subst P here high)
    (cases_eq k (2 * j))) (cases_lt k (2 * j))

pub loop-j-preserved : goal.loop-j-preserved
loop-j-preserved g c =
    let d = g.G.Gpu.state c.args.gpu.now in
    let now = c.loop-j.invariant.device in
    let n = 512 * c.args.part + c.loop-j.j in
    record {
      live = subst (λ (e : Device). IsSome (e.label c.args.page)) (sym c.poke.ensures) c.loop-j.invariant.live;
      device = c.poke.ensures ∙ ap (λ e. poked e c.args.page c.loop-j.j c.packed-word.result) now
          ∙ ap (poked (packed_into d c.args.page c.args.words.now (512 * c.args.part) c.loop-j.j) c.args.page c.loop-j.j) c.packed-word.ensures.value
          ∙ sym (packed-more d c.args.page c.args.words.now (512 * c.args.part) c.loop-j.j);
      small = both c.args.words.now c.args.part c.loop-j.j c.loop-j.invariant.small c.packed-word.ensures.low c.packed-word.ensures.high;
    }

pub returns-clause-part : goal.returns-clause-part
returns-clause-part g c =
    let d = g.G.Gpu.state c.args.gpu.now in
    let words = c.args.words.now in
    let part = c.args.part in
    let end = c.loop-j-test.false in
    let most = c.loop-j.auto.j-end in
    let count : c.min-count.result ≡ words_in words part = c.min-count.ensures ∙ ap (λ n. min (n / 2) 512) c.saturating_sub.ensures in
    let all : c.loop-j.j ≡ words_in words part = omega arith in
    let P : Device → Type 0 = λ e. HoldsPart e c.args.page words part in
    subst P (sym (c.loop-j.invariant.device ∙ ap (packed_into d c.args.page words (512 * part)) all))
    (packed-holds d c.args.page words part c.requires.zero (λ k less. c.loop-j.invariant.small k (let P : ℕ → Type 0 = λ n. k < 2 * n in subst P (sym all) less)))
