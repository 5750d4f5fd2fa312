-- What the walk of an access says of it.
use Rattle.std.proofs.Common.{◌≡◌, ℕ, ◌||◌, Bool, true, false, refl}
use Rattle.gv_gpu.specs.Device.{Device, Loaded}
use Rattle.gv_gpu.specs.Physical.{page_of, read_page, write_page, page_strays, read_strays, walk_strays, written_strays, write_strays}
use Rattle.gv_engine.specs.Walk.{walk_of, writable_page, tables_stray}

module _ (d : Device) (root : ℕ) where
  pub read_page-walk : (global : Bool) (at : ℕ) → page_of d (walk_of d root global at).entry ≡ read_page d root global at
  unfolding read_page
  read_page-walk true at = refl
  read_page-walk false at = refl

  pub write_page-walk : (global : Bool) (at : ℕ) → writable_page d (walk_of d root global at).entry ≡ write_page d root global at
  unfolding write_page
  write_page-walk true at = refl
  write_page-walk false at = refl

module _ (d : Device) (l : Loaded) where
  pub read_strays-walk : (global : Bool) (at : ℕ) → (tables_stray d l.owner (walk_of d l.root global at) || page_strays d l.owner (page_of d (walk_of d l.root global at).entry)) ≡ read_strays d l global at
  unfolding read_strays walk_strays read_page
  read_strays-walk true at = refl
  read_strays-walk false at = refl

  pub write_strays-walk : (global : Bool) (at : ℕ) → (tables_stray d l.owner (walk_of d l.root global at) || written_strays d l (writable_page d (walk_of d l.root global at).entry)) ≡ write_strays d l global at
  unfolding write_strays walk_strays write_page
  write_strays-walk true at = refl
  write_strays-walk false at = refl
