-- What nests within a limit is well shaped without one too: of its types, expressions and blocks nothing is asked then.
use Rattle.std.proofs.Common.{ℕ, List, Bool}
use Rattle.std.specs.Prelude.{Option, None}
use Rattle.sl_tree.specs.Sorts.{Spelled}
use Rattle.sl_tree.specs.Declarations.{Limit, Repeated, repeated_none, repeated_more, Separated, separated_one, separated_more, IsPair, pair_of, IsNote, note_bare, note_with, IsNotes, IsParam, param_plain, param_val, param_var, IsParams, params_none, params_some, IsParents, parents_none, parents_some, IsTyped, typed_not, typed_so, IsGiven, given_not, given_block, given_value, IsMethodParams, method_params_not, method_params_so, IsMethod, method_of, IsGlobal, global_of, IsMember, member_method, member_global, IsMembers, members_none, members_some, IsBraced, braced_not, braced_so, IsDeclared, is_enum, is_ints, is_class, is_trait, is_object, IsDecl, decl_of, IsItems, items_none, items_import, items_decl, IsFile, file_of}
use Rattle.sl_tree.specs.declared.tree.TypeTerm.{TypeTerm}
use Rattle.sl_tree.specs.declared.tree.Field.{Field}
use Rattle.sl_tree.specs.declared.tree.Note.{Note}
use Rattle.sl_tree.specs.declared.tree.Param.{Param}
use Rattle.sl_tree.specs.declared.tree.Body.{Body}
use Rattle.sl_tree.specs.declared.tree.Decl.{Decl}
use Rattle.sl_tree.specs.declared.tree.DeclKind.{DeclKind}
use Rattle.sl_tree.specs.declared.tree.Import.{Import}
use Rattle.sl_tree.specs.declared.tree.File.{File}

-- phrases

wide_repeated : {X : Type 0} {P Q : X → List Spelled → Type 0} → ((x : X) (us : List Spelled) → P x us → Q x us)
    → {xs : List X} {ts : List Spelled} → Repeated X P xs ts → Repeated X Q xs ts
wide_repeated f (repeated_none e ex) = repeated_none e ex
wide_repeated f (repeated_more {us} {x} h w e ex) = repeated_more (f x us h) (wide_repeated f w) e ex

wide_separated : {X : Type 0} {sorts : List ℕ} {P Q : X → List Spelled → Type 0} → ((x : X) (us : List Spelled) → P x us → Q x us)
    → {xs : List X} {ts : List Spelled} → Separated X sorts P xs ts → Separated X sorts Q xs ts
wide_separated f (separated_one {ts} {x} h ex) = separated_one (f x ts h) ex
wide_separated f (separated_more {us} {x} c h hc w e ex) = separated_more c (f x us h) hc (wide_separated f w) e ex

-- notes

pub wide_pair : (limit : Limit) (x : Field) (ts : List Spelled) → IsPair limit x ts → IsPair None x ts
wide_pair limit x ts (pair_of k s hk hs h e ex) = pair_of k s hk hs (h.0, h.1, tt) e ex

pub wide_note : (limit : Limit) (x : Note) (ts : List Spelled) → IsNote limit x ts → IsNote None x ts
wide_note limit x ts (note_bare a k ha hk e ex) = note_bare a k ha hk e ex
wide_note limit x ts (note_with a k p q ha hk hp w hq e ex) = note_with a k p q ha hk hp (wide_separated (wide_pair limit) w) hq e ex

pub wide_notes : (limit : Limit) (xs : List Note) (ts : List Spelled) → IsNotes limit xs ts → IsNotes None xs ts
wide_notes limit xs ts w = wide_repeated (wide_note limit) w

-- parameters and parents

pub wide_param : (limit : Limit) (x : Param) (ts : List Spelled) → IsParam limit x ts → IsParam None x ts
wide_param limit x ts (param_plain k c hk hc h e ex) = param_plain k c hk hc (h.0, h.1, tt) e ex
wide_param limit x ts (param_val w k c hw hk hc h e ex) = param_val w k c hw hk hc (h.0, h.1, tt) e ex
wide_param limit x ts (param_var w k c hw hk hc h e ex) = param_var w k c hw hk hc (h.0, h.1, tt) e ex

pub wide_params : (limit : Limit) (xs : List Param) (ts : List Spelled) → IsParams limit xs ts → IsParams None xs ts
wide_params limit xs ts (params_none p q hp hq e ex) = params_none p q hp hq e ex
wide_params limit xs ts (params_some p q hp w hq e) = params_some p q hp (wide_separated (wide_param limit) w) hq e

pub wide_parents : (limit : Limit) (xs : List TypeTerm) (ts : List Spelled) → IsParents limit xs ts → IsParents None xs ts
wide_parents limit xs ts (parents_none e ex) = parents_none e ex
wide_parents limit xs ts (parents_some w hw h e) = parents_some w hw (wide_separated (λ x us u. (u.0, u.1, tt)) h) e

-- members

wide_typed : (limit : Limit) (o : Option TypeTerm) (ts : List Spelled) → IsTyped limit o ts → IsTyped None o ts
wide_typed limit o ts (typed_not e eo) = typed_not e eo
wide_typed limit o ts (typed_so c hc h e eo) = typed_so c hc (h.0, h.1, tt) e eo

wide_given : (limit : Limit) (o : Option Body) (ts : List Spelled) → IsGiven limit o ts → IsGiven None o ts
wide_given limit o ts (given_not e eo) = given_not e eo
wide_given limit o ts (given_block s hs h e eo) = given_block s hs (h.0, h.1, tt) e eo
wide_given limit o ts (given_value s hs h e eo) = given_value s hs (h.0, h.1, tt) e eo

wide_method_params : (limit : Limit) (o : Option (List Param)) (ts : List Spelled) → IsMethodParams limit o ts → IsMethodParams None o ts
wide_method_params limit o ts (method_params_not e eo) = method_params_not e eo
wide_method_params limit o ts (method_params_so {params} w eo) = method_params_so (wide_params limit params ts w) eo

wide_method : (limit : Limit) (o : Bool) (kind : DeclKind) (ts : List Spelled) → IsMethod limit o kind ts → IsMethod None o kind ts
wide_method limit o kind ts (method_of {vs} {xs} {params} {given} w k c hw hk ht hp hc h hg e ek) =
    method_of w k c hw hk ht (wide_method_params limit params vs hp) hc (h.0, h.1, tt) (wide_given limit given xs hg) e ek

wide_global : (limit : Limit) (o : Bool) (kind : DeclKind) (ts : List Spelled) → IsGlobal limit o kind ts → IsGlobal None o kind ts
wide_global limit o kind ts (global_of {us} {typed} w k s hw hk ht hs h e ek) = global_of w k s hw hk (wide_typed limit typed us ht) hs (h.0, h.1, tt) e ek

pub wide_member : (limit : Limit) (globals : Bool) (d : Decl) (ts : List Spelled) → IsMember limit globals d ts → IsMember None globals d ts
wide_member limit globals d ts (member_method {o} {us} {ws} {notes} {kind} hn ho h e ed) =
    member_method (wide_notes limit notes us hn) ho (wide_method limit o kind ws h) e ed
wide_member limit globals d ts (member_global {o} {us} {ws} {notes} {kind} hn ho h eg e ed) =
    member_global (wide_notes limit notes us hn) ho (wide_global limit o kind ws h) eg e ed

pub wide_members : (limit : Limit) (globals : Bool) (xs : List Decl) (ts : List Spelled) → IsMembers limit globals xs ts → IsMembers None globals xs ts
wide_members limit globals xs ts (members_none e ex) = members_none e ex
wide_members limit globals xs ts (members_some w) = members_some (wide_separated (wide_member limit globals) w)

pub wide_braced : (limit : Limit) (globals : Bool) (o : Option (List Decl)) (ts : List Spelled) → IsBraced limit globals o ts → IsBraced None globals o ts
wide_braced limit globals o ts (braced_not e eo) = braced_not e eo
wide_braced limit globals o ts (braced_so {us} {members} p q hp w hq e eo) = braced_so p q hp (wide_members limit globals members us w) hq e eo

-- declarations and files

pub wide_declared : (limit : Limit) (kind : DeclKind) (ts : List Spelled) → IsDeclared limit kind ts → IsDeclared None kind ts
wide_declared limit kind ts (is_enum w k p q hw hk hp h hq e ek) = is_enum w k p q hw hk hp h hq e ek
wide_declared limit kind ts (is_ints w k hw hk e ek) = is_ints w k hw hk e ek
wide_declared limit kind ts (is_class {vs} {ws} {xs} {params} {parents} {methods} w k hw hk h1 h2 h3 h4 e ek) =
    is_class w k hw hk h1 (wide_params limit params vs h2) (wide_parents limit parents ws h3) (wide_braced limit _ methods xs h4) e ek
wide_declared limit kind ts (is_trait {vs} {ws} {parents} {methods} w k hw hk h1 h2 h3 e ek) =
    is_trait w k hw hk h1 (wide_parents limit parents vs h2) (wide_braced limit _ methods ws h3) e ek
wide_declared limit kind ts (is_object {us} {vs} {parents} {members} w k hw hk h1 h2 e ek) =
    is_object w k hw hk (wide_parents limit parents us h1) (wide_braced limit _ members vs h2) e ek

pub wide_decl : (limit : Limit) (d : Decl) (ts : List Spelled) → IsDecl limit d ts → IsDecl None d ts
wide_decl limit d ts (decl_of {us} {vs} {notes} {kind} h w e ed) = decl_of (wide_notes limit notes us h) (wide_declared limit kind vs w) e ed

wide_items : (limit : Limit) (imports : List Import) (decls : List Decl) (ts : List Spelled) → IsItems limit imports decls ts → IsItems None imports decls ts
wide_items limit imports decls ts (items_none e ei ed) = items_none e ei ed
wide_items limit imports decls ts (items_import {rest} {vs} s hs h w e ei) = items_import s hs h (wide_items limit rest decls vs w) e ei
wide_items limit imports decls ts (items_decl {rest} {us} {vs} {d} s hs h w e ed) = items_decl s hs (wide_decl limit d us h) (wide_items limit imports rest vs w) e ed

pub wide_file : (limit : Limit) (feeds : List ℕ) (x : File) (ts : List Spelled) → IsFile limit feeds x ts → IsFile None feeds x ts
wide_file limit feeds x ts (file_of {ws} {imports} {decls} h hl w e ex) = file_of h hl (wide_items limit imports decls ws w) e ex
