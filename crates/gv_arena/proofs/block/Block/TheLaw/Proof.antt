-- A `&` to a block is a `&` to its fields, and one to the pages behind the pointer.
use base.Fml.{Fml, Lft}
use base.Fraction.{full_share}
use contract.BorrowLft.{⊑_static}
use denote.Memory.{lone}
use denote.Param.Shared.{Sharable, array_shared, copy_shared}
use denote.RawPtr.{lies_at}
use denote.Shares.{Shares, Shares-less}
use denote.Sharing.{ShrLaws}
use denote.Struct.Field.{Field, RawPtr-field, u64-field, array_field}
use denote.Struct.Laws.{RawPtr-copy, u64-copy}
use denote.Struct.Lending.{Lends, lent_at_shr_laws, Lends-lies, Lends-first, of_Lends}
use mir.Raw.{raw}
use seplogic.Ra.Ura.{Ura}
use types.Logic.{Logic}
use Rattle.std.proofs.alloc.Global.TheLaws.{the_field_shared as heap_shared}
use Rattle.std.specs.contracts.alloc.Global.{the_row as Heap}
use Rattle.std.specs.contracts.impls.GlobalAllocator.TheImpl.{ghosts}
use Rattle.gv_arena.specs.Ownership.{Pages, block_owned, block_lent}
use Rattle.gv_arena.specs.contracts.block.Block as block
use Rattle.gv_arena.specs.declared.block.Block.{Block}
use Rattle.gv_arena.proofs.block.Block.TheLaw.Statement.{statement}

abbrev page_field : Field
page_field = array_field u64-field 512

abbrev pages_field : Field
pages_field = array_field page_field 64

-- pages of words can be shared, as words can
pages_shared : Sharable pages_field
pages_shared = array_shared page_field (array_shared u64-field (copy_shared u64-field u64-copy) 512) 64

abbrev lifetime : Lft
lifetime = block.the_row.lives

module _ {M : Type 1} {𝓤 : Ura M} (𝓛 : Logic 𝓤) where
  in_time : Shares 𝓛 Pages lifetime
  in_time = Shares-less 𝓛 Pages Pages.lives lifetime (⊑_static lifetime) (pages_shared.shares M 𝓤 𝓛)

  -- what a block owns beside its fields, once it is borrowed: the pages, while the right to free them rests
  owned_lends : (b : Block) → Lends 𝓛 (block_owned b.alloc b.start b.pages) (block_lent b.start b.pages) lifetime
  owned_lends b =
      let pages : Fml = lies_at Pages full_share b.start b.pages in
      let to_free : Fml = ghosts.dealloc_token b.alloc (raw (lone Pages.mir)) b.start in
      Lends-first 𝓛 pages to_free (block_lent b.start b.pages) lifetime (Lends-lies 𝓛 Pages lifetime b.start b.pages (in_time b.pages))

lent_laws : (b : Block) → ShrLaws (block_lent b.start b.pages)
lent_laws b = lent_at_shr_laws Pages pages_shared.shr_laws b.start b.pages

pub shares : statement
shares =
    of_Lends block.struct (block.the_codes Heap.coded) block.the_heap block.the_lent (λ b _. lent_laws b)
    (copy_shared RawPtr-field RawPtr-copy, (heap_shared, tt)) (λ M 𝓤 𝓛 b _. owned_lends 𝓛 b)
