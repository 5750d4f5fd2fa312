-- The quadword by which a submission names a context.
use Rattle.std.specs.Prelude.{ℕ, ◌/◌, ◌%◌, ◌^◌}
use Rattle.gv_types.specs.Bits.{has_lowest_bit}
use Rattle.gv_ctx.specs.declared.descriptor.Descriptor.{Descriptor}

-- bit 0 valid, bits 4..3 the addressing mode, bits 31..12 the global page, bits 63..32 the number
abbrev pub descriptor_of : ℕ → Descriptor
descriptor_of word = record {
  valid = has_lowest_bit word;
  mode = word / 2 ^ 3 % 4;
  page = word / 2 ^ 12 % 2 ^ 20;
  number = word / 2 ^ 32;
}
