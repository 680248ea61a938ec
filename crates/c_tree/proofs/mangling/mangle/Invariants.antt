use Rattle.std.proofs.Common.{◌≡◌, ◌++◌, string_bytes, codes, take}
use Rattle.std.specs.List.{flat_map}
use Rattle.c_tree.specs.Mangled.{mangled_byte}
use Rattle.c_tree.proofs.mangling.mangle.Given as goal

abbrev pub invariant-loop-byte : goal.invariant-loop-byte
invariant-loop-byte l = string_bytes l.text ≡ codes "m_" ++ flat_map mangled_byte (take l.byte-index l.byte-items)
