use Rattle.std.proofs.Common.{◌<◌, ◌∙◌, length, sym, arith, refl}
use Rattle.std.proofs.lemmas.List.{length-set}
use Rattle.gv_engine.specs.Soft.{loaded_of}
use Rattle.gv_engine.specs.Whole.{whole}
use Rattle.gv_engine.proofs.FetchLemmas.{dwords_from-none, dwords_stray-none, fetch-step, stray-step}
use Rattle.gv_engine.proofs.soft.SoftGpu.fetch_dwords.Goals as goal

pub loop-n-init : goal.loop-n-init
loop-n-init c = record {
  long = refl;
  words = sym (dwords_from-none (whole c.args.self.now) c.args.context.now.root c.args.global c.args.at);
  strayed = sym (dwords_stray-none (whole c.args.self.now) (loaded_of c.args.context.now) c.args.global c.args.at);
}

pub loop-n-preserved : goal.loop-n-preserved
loop-n-preserved c =
    let within : c.loop-n.n < length c.loop-n.words = omega arith in
    record {
      long = length-set c.loop-n.words c.loop-n.n c.dword-word.result.0 ∙ c.loop-n.invariant.long;
      words = fetch-step (whole c.args.self.now) c.args.context.now.root c.args.global c.args.at c.loop-n.n c.dword-word.result.0 c.loop-n.words within c.loop-n.invariant.words c.dword-word.ensures.value;
      strayed = stray-step (whole c.args.self.now) (loaded_of c.args.context.now) c.args.global c.args.at c.loop-n.n c.loop-n.strayed c.dword-word.result.1 c.either-strayed.result c.loop-n.invariant.strayed c.dword-word.ensures.strayed c.either-strayed.ensures;
    }
