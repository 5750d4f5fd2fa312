mod Added
mod Arms
mod BigLit
pub mod Bytes
mod Fields
mod FreeNumbers
mod Handle
mod HeapAnswer
mod Items
mod Joined
mod Loan
mod Longer
pub mod Nothing
mod OnAny
pub mod Overwriting
mod Padding
pub mod PageBytes
mod Parts
pub mod RowCopied
mod Shared
mod Shown
mod Steps
mod Zeros
