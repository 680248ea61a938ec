-- What is found by names is what a walk finds.
use Rattle.std.proofs.Common.{◌≡◌, ℕ, List, [], ◌∷◌, ◌++◌, Option, None, Some, Bool, true, false, not, ◌&&◌, ◌||◌, if◌then◌else◌, refl, sym, ap, ap₂, ◌∙◌, length, ◌==◌}
use Rattle.std.specs.Prelude.{slice_get}
use Rattle.std.specs.List.{list_any}
use Rattle.std.specs.Option.{is_some, option_and_then}
use Rattle.std.specs.Str.{bytes_eq}
use Rattle.std.specs.Global.{Vec}
use Rattle.std.proofs.lemmas.List.Folds.{list_any-append}
use Rattle.c_tree.specs.declared.tree.CFun.{CFun}
use Rattle.c_tree.specs.declared.tree.CPlace.{CPlace}
use Rattle.c_tree.specs.declared.tree.CExpr.{CExpr}
use Rattle.c_tree.specs.Scope.{Scope}
use Rattle.c_rules.specs.declared.naming.Names.{Names}
use Rattle.c_rules.specs.Least.{told, least, least_in}
use Rattle.c_rules.specs.Bodies.{is_named, is_inline_among, misfits, result_misfits, of_callee}
use Rattle.c_rules.specs.Protos.{lacks_proto, lacks_number, is_function_of, is_number_of, same_vars}
use Rattle.c_rules.specs.Types.{same_type}
use Rattle.c_rules.specs.Naming.{item_named, numbers_named, says_inline, AreNumbered, AreEarlier}
use Rattle.c_rules.proofs.Clashes.{bytes_flip}
use Rattle.c_rules.proofs.Keeping.{same_text}
use Rattle.c_rules.proofs.Counted.{numbers_count, numbers_any, least_numbered, any_numbered}

-- Functions before another ------------------------------------------------------------------------------------------------

-- where none is
pub earlier_none : (names : Names Bool) → ((name : List ℕ) → item_named names name ≡ None) → AreEarlier [] names
earlier_none names none = record { named = λ name. ap is_some (none name); inline = λ name. ap says_inline (none name) }

-- where one more is
module _ (functions : List CFun) (function : CFun) (old new : Names Bool) (inline : Bool) (are : AreEarlier functions old) (is : inline ≡ function.inline || says_inline (item_named old function.name)) (set : (name : List ℕ) → item_named new name ≡ (if bytes_eq function.name name then Some inline else item_named old name)) where
  named_step : (b : Bool) (o : Option Bool) (rest : Bool) → is_some o ≡ rest → is_some (if b then Some inline else o) ≡ rest || (b || false)
  named_step true o true h = refl
  named_step true o false h = refl
  named_step false o true h = h
  named_step false o false h = h

  turned : (here behind : Bool) → here || behind ≡ behind || ((here && true) || false)
  turned true true = refl
  turned true false = refl
  turned false true = refl
  turned false false = refl

  kept : (here behind : Bool) → behind ≡ behind || ((here && false) || false)
  kept true true = refl
  kept true false = refl
  kept false true = refl
  kept false false = refl

  inline_step : (name : List ℕ) (b : Bool) → (b ≡ true → function.name ≡ name) → says_inline (if b then Some inline else item_named old name) ≡ is_inline_among functions name || ((function.inline && b) || false)
  inline_step name true this =
      is ∙ (ap (λ name. function.inline || says_inline (item_named old name)) (this refl)
      ∙ (ap (λ rest. function.inline || rest) (are.inline name) ∙ turned function.inline (is_inline_among functions name)))
  inline_step name false this = are.inline name ∙ kept function.inline (is_inline_among functions name)

  pub earlier_more : AreEarlier (functions ++ function ∷ []) new
  earlier_more = record {
    named = λ name.
        ap is_some (set name)
        ∙ (named_step (bytes_eq function.name name) (item_named old name) (list_any (is_named name) functions) (are.named name)
        ∙ sym (list_any-append (is_named name) functions (function ∷ [])));
    inline = λ name.
        ap says_inline (set name)
        ∙ (inline_step name (bytes_eq function.name name) (same_text function.name name)
        ∙ sym (list_any-append (λ function. function.inline && is_named name function) functions (function ∷ [])));
  }

-- All functions with a name -------------------------------------------------------------------------------------------------

module _ (functions : List CFun) (numbers : Names (Vec ℕ)) (are : AreNumbered functions numbers) where
  -- there is one
  pub any_found : (name : List ℕ) → not (length (numbers_named numbers name) == 0) ≡ list_any (is_named name) functions
  any_found name = ap (λ some. not (length some == 0)) (are name) ∙ numbers_any 0 functions name

  -- what a call breaks with them
  pub callees_found : (scope : Scope) (target : Option CPlace) (name : List ℕ) (arguments : List CExpr) → least_in (λ number. option_and_then (of_callee scope target name arguments) (slice_get functions number)) (numbers_named numbers name) ≡ least_in (of_callee scope target name arguments) functions
  callees_found scope target name arguments =
      ap (least_in (λ number. option_and_then (of_callee scope target name arguments) (slice_get functions number))) (are name)
      ∙ least_numbered functions name (of_callee scope target name arguments)
      (λ callee other. ap (λ b. if b then least (told 16 (misfits scope arguments callee.params)) (told 17 (result_misfits scope target callee.result)) else None) other)

  -- a function like a prototype is among them
  pub alike_found : (proto : CFun) → list_any (λ number. is_number_of functions proto number) (numbers_named numbers proto.name) ≡ list_any (is_function_of proto) functions
  alike_found proto =
      ap (list_any (λ number. is_number_of functions proto number)) (are proto.name)
      ∙ any_numbered functions proto.name (is_function_of proto)
      (λ function other. ap (λ same. not function.inline && ((same && same_type proto.result function.result) && same_vars proto.params function.params)) (bytes_flip proto.name function.name ∙ other) ∙ no (not function.inline))
    where
      no : (b : Bool) → (b && false) ≡ false
      no true = refl
      no false = refl

  -- a function lacks a prototype where it isn't told by exactly one number
  pub lacks_found : (function : CFun) → lacks_number numbers function ≡ lacks_proto functions function
  lacks_found function = ap (λ n. not function.inline && not (n == 1)) (ap length (are function.name) ∙ numbers_count functions function.name)

  pub any_lacks_found : (others : List CFun) → list_any (lacks_number numbers) others ≡ list_any (lacks_proto functions) others
  any_lacks_found [] = refl
  any_lacks_found (other ∷ others) = ap₂ (λ here rest. here || rest) (lacks_found other) (any_lacks_found others)
