-- The shared device follows a guest's own tables.
use Rattle.std.proofs.Common.{◌≡◌, ℕ, ◌<◌, true, Option, None, Some, refl, ◌∙◌, subst}
use Rattle.gv_element.specs.Works.{Held}
use Rattle.gv_entry.specs.Ranges.{owns_page}
use Rattle.gv_gpu.specs.Device.{Device}
use Rattle.gv_gtt.specs.Gtt.{frames_of, memory_of, nodes_in, number_of, roots_in}
use Rattle.gv_gtt.proofs.Standing.{translation_mirrors, translation_shadows}
use Rattle.std.proofs.lemmas.List.{length-map}
use Rattle.gv_private.specs.Grants.{page_grant}
use Rattle.gv_sggtt.specs.Mirror.{NamesFrame}
use Rattle.gv_shape.proofs.Shadows.{shadows_reach}
use Rattle.gv_sppgtt.proofs.AtRest.{serving_tables_chain, serving_tables_count}
use Rattle.gv_sppgtt.proofs.Meaning.{serving_tables_are_live}
use Rattle.gv_vgpu.specs.Followed.{ElementsAreLoaded, IsLoadedFor, TablesAreFollowed}
use Rattle.gv_vgpu.specs.Vgpu.{engine_at, private_of}
use Rattle.gv_vgpu.specs.Standing.{StandsOn}
use Rattle.gv_vgpu.specs.declared.vgpu.Vgpu.{Vgpu}
use Rattle.gv_vgpu.proofs.Working.{over-private}

pub tables_are_followed : TablesAreFollowed
tables_are_followed d v here holds =
    let serving = holds.translates.serving in
    let stands = serving.stands in
    record {
      roots = λ root page node. shadows_reach d (frames_of v.gtt) (memory_of d v.gtt) (roots_in v.gtt) (nodes_in v.gtt) root page stands.holds.stands (translation_shadows d v.gtt holds.translates) node;
      entries = λ page owned.
          subst (λ q. NamesFrame (frames_of v.gtt) (page_grant q page) (d.global page)) (over-private d v here holds)
          (translation_mirrors d v.gtt (private_of d v here) holds.translates page (subst (λ ranges. owns_page ranges page ≡ true) holds.ranges owned));
      tables = serving_tables_are_live d (frames_of v.gtt) v.gtt.memory.pins v.gtt.tables serving.serves;
      counts = serving_tables_count d (frames_of v.gtt) v.gtt.memory.pins v.gtt.tables serving.serves;
      chains = serving_tables_chain d (frames_of v.gtt) v.gtt.memory.pins v.gtt.tables serving.serves;
      pins = λ frame within. stands.pins frame (subst (λ n. frame < n) (length-map v.gtt.memory.frames.pages d.words ∙ stands.frames) within);
    }

loaded-by : (d : Device) (v : Vgpu) (engine : ℕ) (o : Option Held) → StandsOn d v engine true o → IsLoadedFor d (number_of v.gtt) engine o
loaded-by d v engine None stands = stands.idle refl
loaded-by d v engine (Some x) stands = stands.works.loaded refl

pub elements_are_loaded : ElementsAreLoaded
elements_are_loaded d v here engine holds four own =
    loaded-by d v engine (engine_at v engine).element (subst (λ b. StandsOn d v engine b (engine_at v engine).element) own (holds.engines engine four))
