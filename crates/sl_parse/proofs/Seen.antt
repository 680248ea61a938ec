-- Each name that has a rule spells what its rule does.
use Rattle.std.proofs.Common.{◌≡◌, false}
use Rattle.sl_grammar.specs.Law.{Seen}
use Rattle.sl_tree.specs.Declarations.{Limit}
use Rattle.sl_parse.specs.Names.{Name, Type_term, Expression, Block, Library, Path, Import_name, Import_step, Import_of, Pair, Note_of, Notes, Type_params, Param_of, Params, Parents, Enum_names, Member, Members, Braced, Declared, Decl_of, Item, Package, File_of, rule_of}
use Rattle.sl_parse.specs.Grammar.{own_at, tree, spells}
use Rattle.sl_parse.proofs.Spans.{Said, seen_by}
use Rattle.sl_parse.proofs.SeenNames.{path_to, path_back, import_name_to, import_name_back, import_step_to, import_step_back, import_to, import_back, package_to, package_back, type_params_to, type_params_back, enum_names_to, enum_names_back}
use Rattle.sl_parse.proofs.SeenMembers.{pair_to, pair_back, note_to, note_back, notes_to, notes_back, param_to, param_back, params_to, params_back, parents_to, parents_back, member_to, member_back, members_to, members_back, braced_to, braced_back}
use Rattle.sl_parse.proofs.SeenFiles.{declared_to, declared_back, decl_to, decl_back, item_to, item_back, file_to, file_back}

pub seen : (limit : Limit) (n : Name) → own_at n ≡ false → Seen (Said limit (rule_of n)) (tree n) (spells limit n)
seen limit Type_term o = absurd cc
seen limit Expression o = absurd cc
seen limit Block o = absurd cc
seen limit Library o = absurd cc
seen limit Path o = seen_by limit Path (path_to limit) (path_back limit)
seen limit Import_name o = seen_by limit Import_name (import_name_to limit) (import_name_back limit)
seen limit Import_step o = seen_by limit Import_step (import_step_to limit) (import_step_back limit)
seen limit Import_of o = seen_by limit Import_of (import_to limit) (import_back limit)
seen limit Pair o = seen_by limit Pair (pair_to limit) (pair_back limit)
seen limit Note_of o = seen_by limit Note_of (note_to limit) (note_back limit)
seen limit Notes o = seen_by limit Notes (notes_to limit) (notes_back limit)
seen limit Type_params o = seen_by limit Type_params (type_params_to limit) (type_params_back limit)
seen limit Param_of o = seen_by limit Param_of (param_to limit) (param_back limit)
seen limit Params o = seen_by limit Params (params_to limit) (params_back limit)
seen limit Parents o = seen_by limit Parents (parents_to limit) (parents_back limit)
seen limit Enum_names o = seen_by limit Enum_names (enum_names_to limit) (enum_names_back limit)
seen limit (Member globals) o = seen_by limit (Member globals) (member_to limit globals) (member_back limit globals)
seen limit (Members globals) o = seen_by limit (Members globals) (members_to limit globals) (members_back limit globals)
seen limit (Braced globals) o = seen_by limit (Braced globals) (braced_to limit globals) (braced_back limit globals)
seen limit Declared o = seen_by limit Declared (declared_to limit) (declared_back limit)
seen limit Decl_of o = seen_by limit Decl_of (decl_to limit) (decl_back limit)
seen limit Item o = seen_by limit Item (item_to limit) (item_back limit)
seen limit Package o = seen_by limit Package (package_to limit) (package_back limit)
seen limit File_of o = seen_by limit File_of (file_to limit) (file_back limit)
