use Rattle.std.proofs.Common.{◌≡◌, take}
use Rattle.std.specs.List.{flat_map}
use Rattle.sl_parse.specs.TreeRules.{first_of, broken_decl}
use Rattle.sl_parse.proofs.tree_rules.declarations.+declarations.Given as goal

-- the declarations so far were looked at
abbrev pub invariant-in_decls-loop-decl : goal.invariant-in_decls-loop-decl
invariant-in_decls-loop-decl l = l.first ≡ first_of (flat_map broken_decl (take l.decl-index l.decls))
