-- What holds of tables that serve a memory: counts of parents, chains, and pins, in the guest's own terms.
use Rattle.std.proofs.Common.{◌≡◌, length, sym, ◌∙◌}
use Rattle.std.proofs.lemmas.List.{length-map}
use Rattle.gv_guest.specs.Placed.{memory_in}
use Rattle.gv_sppgtt.specs.State.{pages_of, parents_of, readings_of}
use Rattle.gv_sppgtt.specs.Serving.{roots_of}
use Rattle.gv_sppgtt.specs.Laws.{ServingTablesCount, ServingTablesChain, ServingTablesPin, ServingTablesServeOn}
use Rattle.gv_sppgtt.proofs.BadEntries.{frame-words}
use Rattle.gv_sppgtt.proofs.Mapped.{leaves-mapped, leaves-few}
use Rattle.gv_sppgtt.proofs.Resting.{settled}
use Rattle.gv_sppgtt.proofs.Standing.{serving_tables_keep, serving_tables_stay}

pub serving_tables_count : ServingTablesCount
serving_tables_count d placed pins t s =
    let done = settled d placed t pins (roots_of t) 0 0 0 s.holds s.rests in
    record {
      words = λ k f p i is small. done.same k f p i (s.holds.sound.boarded.low k f p is).1.0 is small;
      empty = done.empty;
      parents = done.counted;
    }

pub serving_tables_chain : ServingTablesChain
serving_tables_chain d placed pins t s =
    let done = settled d placed t pins (roots_of t) 0 0 0 s.holds s.rests in
    let chained = s.holds.sound.chained in
    record {
      each = λ k f h leaf is. chained.linked k f leaf.page leaf.index h leaf.writable is.leaves is.node is.within (done.same k f leaf.page leaf.index (s.holds.sound.boarded.low k f leaf.page is.node).1.0 is.node is.within ∙ is.maps);
      no_other = λ h q leaf is.
          let at = chained.leaves h q leaf is in
          let k = at.0 in
          let f = at.1 in
          let node = at.2.1.0 in
          let within = at.2.1.1.0 in (
            at.2.1.1.1.0,
            (
              k,
              f,
              record {
                leaves = at.2.0;
                node = node;
                within = within;
                maps = sym (done.same k f leaf.page leaf.index (s.holds.sound.boarded.low k f leaf.page node).1.0 node within) ∙ at.2.1.1.1.1;
              },
            ),
          );
      once = chained.ordered;
    }

pub serving_tables_pin : ServingTablesPin
serving_tables_pin d placed pins t s frame =
    let done = settled d placed t pins (roots_of t) 0 0 0 s.holds s.rests in
    let long : length (memory_in d placed) ≡ length placed.pages = length-map placed.pages d.words in (
      leaves-mapped (length placed.pages) (memory_in d placed) (roots_of t) (pages_of t) (parents_of t) (readings_of d t) s.holds.few long (λ q low. frame-words d placed q s.holds.stands low) done frame,
      leaves-few (length placed.pages) (memory_in d placed) (roots_of t) (pages_of t) (parents_of t) (readings_of d t) s.holds.few long (λ q low. frame-words d placed q s.holds.stands low) done frame,
    )

pub serving_tables_serve_on : ServingTablesServeOn
serving_tables_serve_on d e placed pins t s stands same keeps room =
    serving_tables_stay d e placed pins pins t (memory_in e placed) (serving_tables_keep d placed pins t (memory_in e placed) s same) stands keeps s.holds.pinned room
