-- The tokens of a declaration as they are written are the tokens that it is of, and so of imports, notes, parameters and the line of the
-- package.
use Rattle.std.proofs.Common.{◌≡◌, ℕ, List, [], ◌∷◌, ◌++◌, map, Bool, Option, refl, sym, ap, ◌∙◌, subst}
use Rattle.std.specs.Prelude.{codes}
use Rattle.std.specs.List.{flat_map}
use Rattle.std.proofs.lemmas.List.{append-nil}
use Rattle.sl_tree.specs.declared.tree.Lexeme.{Lexeme}
use Rattle.sl_tree.specs.declared.tree.TypeTerm.{TypeTerm}
use Rattle.sl_tree.specs.declared.tree.Expr.{Expr}
use Rattle.sl_tree.specs.declared.tree.Field.{Field}
use Rattle.sl_tree.specs.declared.tree.Note.{Note}
use Rattle.sl_tree.specs.declared.tree.Param.{Param}
use Rattle.sl_tree.specs.declared.tree.Body.{Body}
use Rattle.sl_tree.specs.declared.tree.Decl.{Decl}
use Rattle.sl_tree.specs.declared.tree.DeclKind.{DeclKind}
use Rattle.sl_tree.specs.declared.tree.Import.{Import}
use Rattle.sl_tree.specs.Sorts.{Spelled, lexeme}
use Rattle.sl_tree.specs.WellShaped.{Is, IsType}
use Rattle.sl_tree.specs.Declarations.{Limit, Nested, AnyLevel, Repeated, Separated, IsIdentifier, Named, IsEnumName, IsPackage, IsLibrary, IsImport, IsPair, IsNote, IsNotes, IsTypeParams, IsParam, IsParams, IsParents, IsTyped, IsGiven, IsMethodParams, IsOverride, IsMethod, IsGlobal, IsMember, IsMembers, IsBraced, IsDeclared, IsDecl, repeated_none, repeated_more, separated_one, separated_more, package_none, package_some, library_all, import_one, import_all, pair_of, note_bare, note_with, type_params_none, type_params_some, param_plain, param_val, param_var, params_none, params_some, parents_none, parents_some, typed_not, typed_so, given_not, given_block, given_value, method_params_not, method_params_so, override_not, override_so, method_of, global_of, member_method, member_global, members_none, members_some, braced_not, braced_so, is_enum, is_ints, is_class, is_trait, is_object, decl_of}
use Rattle.sl_tree.specs.Flat.{Tokens, name, word, mark, end, between, commas, ends, round, square, flat_names, flat_path, flat_type, flat_ascribed, flat_expr, flat_field, flat_pairs, flat_note, flat_type_params, flat_param, flat_params, flat_method_params, flat_parents, flat_override, flat_given_body, flat_decl, flat_import, flat_library, flat_package}
use Rattle.sl_tree.proofs.Spellings.{dot_is, underscore_is, comma_is, colon_is, equals_is, at_sign_is, val_word_is, var_word_is, package_word_is, import_word_is, class_word_is, object_word_is, trait_word_is, extends_word_is, with_word_is, def_word_is, override_word_is, separator_is, let_is, name_is}
use Rattle.sl_tree.proofs.FlatIs.{Tells, none, next, join, both, rounded, squared, curled, Filled, filled, single, listed, path_filled, path_tells, type_tells, field_tells, expr_tells, block_tells}
use Rattle.sl_tree.proofs.FlatDeclarationLayers.{flat_decl_kind, flat_decl_is, member_tokens, flat_enum, flat_ints, flat_class_decl, flat_trait, flat_object, flat_method, flat_global}

-- Lists ---------------------------------------------------------------------------------------------------------------------------------

repeated_tells : {X : Type 0} {P : X → List Spelled → Type 0} (f : X → Tokens) → ((x : X) (us : List Spelled) → P x us → Tells (f x) us)
    → {xs : List X} {ts : List Spelled} → Repeated X P xs ts → Tells (flat_map f xs) ts
repeated_tells f tell (repeated_none h1 h2) = both (ap (flat_map f) h2) h1 none
repeated_tells f tell (repeated_more h1 h2 h3 h4) = both (ap (flat_map f) h4) h3 (join (tell _ _ h1) (repeated_tells f tell h2))

separated_filled : {X : Type 0} {sorts : List ℕ} {P : X → List Spelled → Type 0} {xs : List X} {ts : List Spelled} → Separated X sorts P xs ts → Filled xs
separated_filled (separated_one h1 h2) = filled _ [] h2
separated_filled (separated_more c h1 h2 h3 h4 h5) = filled _ _ h5

separated_tells : {X : Type 0} {sorts : List ℕ} {P : X → List Spelled → Type 0} (token : Lexeme) (f : X → Tokens)
    → ((c : Spelled) → Is sorts c → lexeme c ≡ token) → ((x : X) (us : List Spelled) → P x us → Tells (f x) us)
    → {xs : List X} {ts : List Spelled} → Separated X sorts P xs ts → Tells (between token (map f xs)) ts
separated_tells token f spelt tell (separated_one h1 h2) = both (ap (λ z. between token (map f z)) h2) refl (single token f _ (tell _ _ h1))
separated_tells token f spelt tell (separated_more c h1 h2 h3 h4 h5) =
    both (ap (λ z. between token (map f z)) h5) h4 (listed f _ c (separated_filled h3) (spelt c h2) (tell _ _ h1) (separated_tells token f spelt tell h3))

-- Phrases within a limit ----------------------------------------------------------------------------------------------------------------

nested_type : (limit : Limit) (t : TypeTerm) (us : List Spelled) → Nested limit IsType t us → Tells (flat_type t) us
nested_type limit t us h = type_tells h.1

nested_expr : (limit : Limit) {e : Expr} {us : List Spelled} → Nested limit AnyLevel e us → Tells (flat_expr e) us
nested_expr limit h = expr_tells h.1.1

identifier_tells : (text : List ℕ) (us : List Spelled) → IsIdentifier text us → Tells (name text ∷ []) us
identifier_tells text us (k, h1, h2, h3) = both (ap (λ z. name z ∷ []) h3) h2 (next k (name_is k h1) none)

-- a name whose bytes are given
named_is : {text : List ℕ} (k : Spelled) → Named text k → lexeme k ≡ name text
named_is k h = name_is k h.0 ∙ ap name h.1

-- The package and imports ---------------------------------------------------------------------------------------------------------------

package_filled : {path : List (List ℕ)} → Filled path → flat_package path ≡ word (codes "package") ∷ (flat_path path ++ end ∷ [])
package_filled full = subst (λ z. flat_package z ≡ word (codes "package") ∷ (flat_path z ++ end ∷ [])) (sym full.is) refl

package_tells : {path : List (List ℕ)} {ts : List Spelled} → IsPackage path ts → Tells (flat_package path) ts
package_tells (package_none h1 h2) = both (ap flat_package h2) h1 none
package_tells (package_some w s h1 h2 h3 h4) = both (package_filled (path_filled h2)) h4 (next w (package_word_is w h1) (join (path_tells h2) (next s (separator_is s h3) none)))

library_tells : {ts : List Spelled} → IsLibrary ts → Tells flat_library ts
library_tells (library_all i o d s e u h1 h2 h3 h4 h5 h6 h7) =
    both refl h7
    (next i (import_word_is i h1) (next o (named_is o h2) (next d (dot_is d h3) (next s (named_is s h4) (next e (dot_is e h5) (next u (underscore_is u h6) none))))))

import_tells : {x : Import} {ts : List Spelled} → IsImport x ts → Tells (flat_import x) ts
import_tells (import_one {path} w h1 h2 h3 h4) = both (ap flat_import h4 ∙ ap (λ z. word (codes "import") ∷ z) (append-nil (flat_path path))) h3 (next w (import_word_is w h1) (path_tells h2))
import_tells (import_all w d u h1 h2 h3 h4 h5 h6) =
    both (ap flat_import h6) h5 (next w (import_word_is w h1) (join (path_tells h2) (next d (dot_is d h3) (next u (underscore_is u h4) none))))

-- Notes ---------------------------------------------------------------------------------------------------------------------------------

pair_tells : {limit : Limit} (x : Field) (us : List Spelled) → IsPair limit x us → Tells (flat_field x) us
pair_tells x us (pair_of k s h1 h2 h3 h4 h5) = both (ap flat_field h5) h4 (field_tells _ k s h1 h2 (nested_expr _ h3))

pairs_filled : {pairs : List Field} → Filled pairs → flat_pairs pairs ≡ round (commas (map flat_field pairs))
pairs_filled full = subst (λ z. flat_pairs z ≡ round (commas (map flat_field z))) (sym full.is) refl

note_tells : {limit : Limit} (x : Note) (us : List Spelled) → IsNote limit x us → Tells (flat_note x) us
note_tells x us (note_bare a k h1 h2 h3 h4) = both (ap flat_note h4) h3 (next a (at_sign_is a h1) (next k (name_is k h2) none))
note_tells x us (note_with a k p q h1 h2 h3 h4 h5 h6 h7) =
    both (ap flat_note h7 ∙ ap (λ z. mark (codes "@") ∷ name k.text ∷ z) (pairs_filled (separated_filled h4))) h6
    (next a (at_sign_is a h1) (next k (name_is k h2) (rounded p q h3 h5 (separated_tells (mark (codes ",")) flat_field comma_is pair_tells h4))))

notes_tell : {limit : Limit} {notes : List Note} {ts : List Spelled} → IsNotes limit notes ts → Tells (flat_map flat_note notes) ts
notes_tell h = repeated_tells flat_note note_tells h

-- The parts of declarations -------------------------------------------------------------------------------------------------------------

type_params_filled : {xs : List (List ℕ)} → Filled xs → flat_type_params xs ≡ square (commas (flat_names xs))
type_params_filled full = subst (λ z. flat_type_params z ≡ square (commas (flat_names z))) (sym full.is) refl

type_params_tell : {xs : List (List ℕ)} {ts : List Spelled} → IsTypeParams xs ts → Tells (flat_type_params xs) ts
type_params_tell (type_params_none h1 h2) = both (ap flat_type_params h2) h1 none
type_params_tell (type_params_some p q h1 h2 h3 h4) =
    both (type_params_filled (separated_filled h2)) h4 (squared p q h1 h3 (separated_tells (mark (codes ",")) (λ text. name text ∷ []) comma_is identifier_tells h2))

param_tells : {limit : Limit} (x : Param) (us : List Spelled) → IsParam limit x us → Tells (flat_param x) us
param_tells x us (param_plain k c h1 h2 h3 h4 h5) = both (ap flat_param h5) h4 (next k (name_is k h1) (next c (colon_is c h2) (nested_type _ _ _ h3)))
param_tells x us (param_val w k c h1 h2 h3 h4 h5 h6) = both (ap flat_param h6) h5 (next w (val_word_is w h1) (next k (name_is k h2) (next c (colon_is c h3) (nested_type _ _ _ h4))))
param_tells x us (param_var w k c h1 h2 h3 h4 h5 h6) = both (ap flat_param h6) h5 (next w (var_word_is w h1) (next k (name_is k h2) (next c (colon_is c h3) (nested_type _ _ _ h4))))

params_tell : {limit : Limit} {xs : List Param} {ts : List Spelled} → IsParams limit xs ts → Tells (flat_params xs) ts
params_tell (params_none p q h1 h2 h3 h4) = both (ap flat_params h4) h3 (rounded p q h1 h2 none)
params_tell (params_some p q h1 h2 h3 h4) = both refl h4 (rounded p q h1 h3 (separated_tells (mark (codes ",")) flat_param comma_is param_tells h2))

parents_filled : {xs : List TypeTerm} → Filled xs → flat_parents xs ≡ word (codes "extends") ∷ between (word (codes "with")) (map flat_type xs)
parents_filled full = subst (λ z. flat_parents z ≡ word (codes "extends") ∷ between (word (codes "with")) (map flat_type z)) (sym full.is) refl

parents_tell : {limit : Limit} {xs : List TypeTerm} {ts : List Spelled} → IsParents limit xs ts → Tells (flat_parents xs) ts
parents_tell (parents_none h1 h2) = both (ap flat_parents h2) h1 none
parents_tell (parents_some w h1 h2 h3) =
    both (parents_filled (separated_filled h2)) h3 (next w (extends_word_is w h1) (separated_tells (word (codes "with")) flat_type with_word_is (nested_type _) h2))

typed_tells : {limit : Limit} {o : Option TypeTerm} {ts : List Spelled} → IsTyped limit o ts → Tells (flat_ascribed o) ts
typed_tells (typed_not h1 h2) = both (ap flat_ascribed h2) h1 none
typed_tells (typed_so c h1 h2 h3 h4) = both (ap flat_ascribed h4) h3 (next c (colon_is c h1) (nested_type _ _ _ h2))

given_tells : {limit : Limit} {o : Option Body} {ts : List Spelled} → IsGiven limit o ts → Tells (flat_given_body o) ts
given_tells (given_not h1 h2) = both (ap flat_given_body h2) h1 none
given_tells (given_block s h1 h2 h3 h4) = both (ap flat_given_body h4) h3 (next s (equals_is s h1) (block_tells h2.1))
given_tells (given_value s h1 h2 h3 h4) = both (ap flat_given_body h4) h3 (next s (equals_is s h1) (nested_expr _ h2))

method_params_tell : {limit : Limit} {o : Option (List Param)} {ts : List Spelled} → IsMethodParams limit o ts → Tells (flat_method_params o) ts
method_params_tell (method_params_not h1 h2) = both (ap flat_method_params h2) h1 none
method_params_tell (method_params_so h1 h2) = both (ap flat_method_params h2) refl (params_tell h1)

override_tells : {o : Bool} {ts : List Spelled} → IsOverride o ts → Tells (flat_override o) ts
override_tells (override_not h1 h2) = both (ap flat_override h2) h1 none
override_tells (override_so w h1 h2 h3) = both (ap flat_override h3) h2 (next w (override_word_is w h1) none)

-- Members -------------------------------------------------------------------------------------------------------------------------------

method_tells : {limit : Limit} {o : Bool} {kind : DeclKind} {us ts : List Spelled} → IsOverride o us → IsMethod limit o kind ts → Tells (flat_decl_kind kind) (us ++ ts)
method_tells {us} h (method_of w k c h1 h2 h3 h4 h5 h6 h7 h8 h9) =
    both (ap flat_decl_kind h9 ∙ flat_method _ _ _ _ _ _) (ap (λ z. us ++ z) h8)
    (join (override_tells h)
    (next w (def_word_is w h1) (next k (name_is k h2) (join (type_params_tell h3) (join (method_params_tell h4) (next c (colon_is c h5) (join (nested_type _ _ _ h6) (given_tells h7))))))))

global_tells : {limit : Limit} {o : Bool} {kind : DeclKind} {us ts : List Spelled} → IsOverride o us → IsGlobal limit o kind ts → Tells (flat_decl_kind kind) (us ++ ts)
global_tells {us} h (global_of w k s h1 h2 h3 h4 h5 h6 h7) =
    both (ap flat_decl_kind h7 ∙ flat_global _ _ _ _ _) (ap (λ z. us ++ z) h6)
    (join (override_tells h) (next w (let_is w h1) (next k (name_is k h2) (join (typed_tells h3) (next s (equals_is s h4) (nested_expr _ h5))))))

member_tells : {limit : Limit} {globals : Bool} (d : Decl) (us : List Spelled) → IsMember limit globals d us → Tells (flat_decl d) us
member_tells d us (member_method h1 h2 h3 h4 h5) = both (ap flat_decl h5 ∙ flat_decl_is _ _ _) h4 (join (notes_tell h1) (method_tells h2 h3))
member_tells d us (member_global h1 h2 h3 h4 h5 h6) = both (ap flat_decl h6 ∙ flat_decl_is _ _ _) h5 (join (notes_tell h1) (global_tells h2 h3))

members_tell : {limit : Limit} {globals : Bool} {xs : List Decl} {ts : List Spelled} → IsMembers limit globals xs ts → Tells (ends (map flat_decl xs)) ts
members_tell (members_none h1 h2) = both (ap (λ z. ends (map flat_decl z)) h2) h1 none
members_tell (members_some h1) = separated_tells end flat_decl separator_is member_tells h1

braced_tells : {limit : Limit} {globals : Bool} {o : Option (List Decl)} {ts : List Spelled} → IsBraced limit globals o ts → Tells (member_tokens o) ts
braced_tells (braced_not h1 h2) = both (ap member_tokens h2) h1 none
braced_tells (braced_so p q h1 h2 h3 h4 h5) = both (ap member_tokens h5) h4 (curled p q h1 h3 (members_tell h2))

-- Declarations --------------------------------------------------------------------------------------------------------------------------

enum_name_tells : (x : Lexeme) (us : List Spelled) → IsEnumName x us → Tells (x ∷ []) us
enum_name_tells x us (k, h1, h2, h3) = both (ap (λ z. z ∷ []) h3) h2 (next k refl none)

declared_tells : {limit : Limit} {kind : DeclKind} {ts : List Spelled} → IsDeclared limit kind ts → Tells (flat_decl_kind kind) ts
declared_tells (is_enum w k p q h1 h2 h3 h4 h5 h6 h7) =
    both (ap flat_decl_kind h7 ∙ flat_enum _ _) h6
    (next w (object_word_is w h1) (next k (name_is k h2) (curled p q h3 h5 (separated_tells end (λ x. x ∷ []) separator_is enum_name_tells h4))))
declared_tells (is_ints w k h1 h2 h3 h4) = both (ap flat_decl_kind h4 ∙ flat_ints _) h3 (next w (class_word_is w h1) (next k (name_is k h2) none))
declared_tells (is_class w k h1 h2 h3 h4 h5 h6 h7 h8) =
    both (ap flat_decl_kind h8 ∙ flat_class_decl _ _ _ _ _) h7
    (next w (class_word_is w h1) (next k (name_is k h2) (join (type_params_tell h3) (join (params_tell h4) (join (parents_tell h5) (braced_tells h6))))))
declared_tells (is_trait w k h1 h2 h3 h4 h5 h6 h7) =
    both (ap flat_decl_kind h7 ∙ flat_trait _ _ _ _) h6 (next w (trait_word_is w h1) (next k (name_is k h2) (join (type_params_tell h3) (join (parents_tell h4) (braced_tells h5)))))
declared_tells (is_object w k h1 h2 h3 h4 h5 h6) =
    both (ap flat_decl_kind h6 ∙ flat_object _ _ _) h5 (next w (object_word_is w h1) (next k (name_is k h2) (join (parents_tell h3) (braced_tells h4))))

decl_tells : {limit : Limit} {d : Decl} {ts : List Spelled} → IsDecl limit d ts → Tells (flat_decl d) ts
decl_tells (decl_of h1 h2 h3 h4) = both (ap flat_decl h4 ∙ flat_decl_is _ _ _) h3 (join (notes_tell h1) (declared_tells h2))

-- What is proved ------------------------------------------------------------------------------------------------------------------------

pub package_flat : {path : List (List ℕ)} {ts : List Spelled} → IsPackage path ts → flat_package path ≡ map lexeme ts
package_flat d = (package_tells d).is

pub library_flat : {ts : List Spelled} → IsLibrary ts → flat_library ≡ map lexeme ts
library_flat d = (library_tells d).is

pub import_flat : {x : Import} {ts : List Spelled} → IsImport x ts → flat_import x ≡ map lexeme ts
import_flat d = (import_tells d).is

pub note_flat : {limit : Limit} {x : Note} {ts : List Spelled} → IsNote limit x ts → flat_note x ≡ map lexeme ts
note_flat d = (note_tells _ _ d).is

pub param_flat : {limit : Limit} {x : Param} {ts : List Spelled} → IsParam limit x ts → flat_param x ≡ map lexeme ts
param_flat d = (param_tells _ _ d).is

pub member_flat : {limit : Limit} {globals : Bool} {d : Decl} {ts : List Spelled} → IsMember limit globals d ts → flat_decl d ≡ map lexeme ts
member_flat d = (member_tells _ _ d).is

pub decl_flat : {limit : Limit} {d : Decl} {ts : List Spelled} → IsDecl limit d ts → flat_decl d ≡ map lexeme ts
decl_flat d = (decl_tells d).is
