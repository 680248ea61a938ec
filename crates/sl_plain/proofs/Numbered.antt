-- What is found by the names of a plain program is what its core names.
use Rattle.std.proofs.Common.{◌≡◌, ℕ, suc, ◌+◌, List, [], ◌∷◌, ◌++◌, length, Bool, true, false, Option, Some, None, option_map, option_and_then, unwrap_or, nat_lt, position, bytes_eq, refl, sym, subst, ap, ◌∙◌, arith, if◌then◌else◌, add-zero, length-append}
use Rattle.std.specs.Ordering.{nat_cmp, is_eq}
use Rattle.std.specs.Cmp.{eq_by_cmp_equiv}
use Rattle.std.specs.Cmp.Lexicographic.{slice_cmp, nat_list_cmp_total, nat_list_eq_equiv, texts_ties}
use Rattle.std.specs.BTreeMap.{BTreeMap, UpdatesBy, get_by}
use Rattle.std.specs.Map.{lookup, IsKeyTest, AreApart, KeepsOthers}
use Rattle.std.specs.Prelude.{Vec}
use Rattle.sl_plain.specs.declared.program.Kind.{Kind}
use Rattle.sl_plain.specs.declared.lowering.numbers.Variable.{Variable}
use Rattle.sl_plain.specs.declared.lowering.numbers.Variables.{Variables}
use Rattle.sl_plain.specs.Program.{Declared, declaration}
use Rattle.sl_plain.specs.Numbering.{variable_named, numbered_from, AreNumbered}
use Rattle.sl_plain.proofs.Names.{declares, place, either, same_bytes, position_is}

-- variables with the same number
abbrev at_number : Kind → ℕ → Option Variable
at_number kind number = Some (record { number = number; kind = kind })

-- a declaration as a variable, numbered from here on
abbrev pub as_variable : ℕ → List Declared → List ℕ → Declared → Variable
as_variable number names name entry = record { number = number + place names name; kind = entry.type }

-- what is found is the first declaration, with its place
pub numbered_is : (number : ℕ) (names : List Declared) (name : List ℕ) → numbered_from number names name ≡ option_map (as_variable number names name) (declaration names name)
numbered_is number [] name = refl
numbered_is number (first ∷ names) name =
    either (declares name first)
    (λ e.
    let left : numbered_from number (first ∷ names) name ≡ at_number first.type number = rw e refl in
    let right : declaration (first ∷ names) name ≡ Some first = rw e refl in
    let at : place (first ∷ names) name ≡ 0 = rw e refl in
    let same : number ≡ number + place (first ∷ names) name = omega arith
    in left ∙ (ap (at_number first.type) same ∙ sym (ap (option_map (as_variable number (first ∷ names) name)) right)))
    (λ e.
    let left : numbered_from number (first ∷ names) name ≡ numbered_from (suc number) names name = rw e refl in
    let right : declaration (first ∷ names) name ≡ declaration names name = rw e refl in
    let at : place (first ∷ names) name ≡ 1 + place names name = rw e refl in
    let same : suc number + place names name ≡ number + place (first ∷ names) name = omega arith
    in left ∙ (numbered_is (suc number) names name ∙ (further same (declaration names name) ∙ sym (ap (option_map (as_variable number (first ∷ names) name)) right))))
  where
    further : suc number + place names name ≡ number + place (first ∷ names) name → (given : Option Declared) → option_map (as_variable (suc number) names name) given ≡ option_map (as_variable number (first ∷ names) name) given
    further same None = refl
    further same (Some entry) = ap (at_number entry.type) same

-- the place of a name that isn't declared is behind all
undeclared : (names : List Declared) (name : List ℕ) → declaration names name ≡ None → place names name ≡ length names
undeclared [] name h = refl
undeclared (first ∷ names) name h =
    either (declares name first)
    (λ e. absurd (some_none first (rw e at h)))
    (λ e. rw e (let rest = undeclared names name (rw e at h) in omega arith))
  where
    some_none : (entry : Declared) → Some entry ≡ None → ⊥
    some_none entry h = grind arith

-- a number, if there is one
abbrev number_or_zero : Option Variable → ℕ
number_or_zero None = 0
number_or_zero (Some variable) = variable.number

-- the number of the variable of a name
pub number_is : (names : List Declared) (name : List ℕ) → unwrap_or (position (declares name) names) 0 ≡ number_or_zero (numbered_from 0 names name)
number_is names name = by (declaration names name) refl
  where
    by : (given : Option Declared) → declaration names name ≡ given → unwrap_or (position (declares name) names) 0 ≡ number_or_zero (numbered_from 0 names name)
    by (Some entry) e = position_is names name entry e ∙ (let n : place names name ≡ 0 + place names name = omega arith in n ∙ ap number_or_zero (sym (numbered_is 0 names name ∙ ap (option_map (as_variable 0 names name)) e)))
    by None e =
        let no : nat_lt (place names name) (length names) ≡ false = rw (undeclared names name e) (not_less (length names))
        in rw no (ap number_or_zero (sym (numbered_is 0 names name ∙ ap (option_map (as_variable 0 names name)) e)))
      where
        not_less : (n : ℕ) → nat_lt n n ≡ false
        not_less n = grind arith

pub place_found : (names : List Declared) (variables : Variables) (name : List ℕ) (found : Variable) → AreNumbered names variables → Some found ≡ variable_named variables name → found.number ≡ unwrap_or (position (declares name) names) 0
place_found names variables name found numbered e = ap number_or_zero (e ∙ numbered.named name) ∙ sym (number_is names name)

pub place_missing : (names : List Declared) (variables : Variables) (name : List ℕ) → AreNumbered names variables → None ≡ variable_named variables name → 0 ≡ unwrap_or (position (declares name) names) 0
place_missing names variables name numbered e = ap number_or_zero (e ∙ numbered.named name) ∙ sym (number_is names name)

-- the type of a name
abbrev pub kind_found : Option Variable → Option Kind
kind_found None = None
kind_found (Some variable) = Some variable.kind

pub kind_is_found : (names : List Declared) (name : List ℕ) → option_and_then (λ (entry : Declared). Some entry.type) (declaration names name) ≡ kind_found (numbered_from 0 names name)
kind_is_found names name = same (declaration names name) ∙ ap kind_found (sym (numbered_is 0 names name))
  where
    same : (given : Option Declared) → option_and_then (λ (entry : Declared). Some entry.type) given ≡ kind_found (option_map (as_variable 0 names name) given)
    same None = refl
    same (Some entry) = refl

-- the type of what is found
pub kind_named : (names : List Declared) (variables : Variables) (name : List ℕ) (found : Option Variable) → AreNumbered names variables → found ≡ variable_named variables name → kind_found found ≡ option_and_then (λ (entry : Declared). Some entry.type) (declaration names name)
kind_named names variables name found numbered e = ap kind_found (e ∙ numbered.named name) ∙ sym (kind_is_found names name)

-- Adding ----------------------------------------------------------------------------------------------------------------

-- what is found behind one more declaration
abbrev or_last : ℕ → Declared → List ℕ → Option Variable → Option Variable
or_last number entry name None = if bytes_eq entry.name name then Some (record { number = number; kind = entry.type }) else None
or_last number entry name (Some found) = Some found

numbered_more : (number : ℕ) (names : List Declared) (entry : Declared) (name : List ℕ) → numbered_from number (names ++ entry ∷ []) name ≡ or_last (number + length names) entry name (numbered_from number names name)
numbered_more number [] entry name = ap (λ n. if bytes_eq entry.name name then at_number entry.type n else None) (sym (add-zero number))
numbered_more number (first ∷ names) entry name =
    either (declares name first)
    (λ e. rw e refl)
    (λ e. rw e (numbered_more (suc number) names entry name ∙ ap (λ n. or_last n entry name (numbered_from (suc number) names name)) n))
  where
    n : suc number + length names ≡ number + length (first ∷ names)
    n = omega arith

-- a name that has a variable keeps it
pub added_known : (before : List Declared) (old new : Variables) (entry : Declared) (found : Variable) → AreNumbered before old → variable_named old entry.name ≡ Some found → new.items ≡ old.items → new.count ≡ old.count + 1 → AreNumbered (before ++ entry ∷ []) new
added_known before old new entry found numbered is items count = record {
  count = count ∙ (let l = length-append before (entry ∷ []) in let c = numbered.count in omega arith);
  named = λ name. ap (λ items. get_by (λ key. slice_cmp nat_cmp name key.items) items) items ∙ (numbered.named name ∙ (stays name (numbered_from 0 before name) refl ∙ sym (numbered_more 0 before entry name)));
}
  where
    stays : (name : List ℕ) (given : Option Variable) → numbered_from 0 before name ≡ given → numbered_from 0 before name ≡ or_last (0 + length before) entry name (numbered_from 0 before name)
    stays name (Some other) e = rw e refl
    stays name None e =
        either (bytes_eq entry.name name)
        (λ same. absurd (none_some found (sym e ∙ (ap (numbered_from 0 before) (sym (same_bytes entry.name name same)) ∙ (sym (numbered.named entry.name) ∙ is)))))
        (λ apart. rw e (rw apart refl))
      where
        none_some : (found : Variable) → None ≡ Some found → ⊥
        none_some found h = grind arith

-- a name that has none gets the next number
pub added_new : (before : List Declared) (old new : Variables) (entry : Declared) → AreNumbered before old → variable_named old entry.name ≡ None
    → ((name : List ℕ) → variable_named new name ≡ (if bytes_eq entry.name name then Some (record { number = old.count; kind = entry.type }) else variable_named old name)) → new.count ≡ old.count + 1 → AreNumbered (before ++ entry ∷ []) new
added_new before old new entry numbered none sets count = record {
  count = count ∙ (let l = length-append before (entry ∷ []) in let c = numbered.count in omega arith);
  named = λ name. sets name ∙ (by name ∙ sym (numbered_more 0 before entry name));
}
  where
    by : (name : List ℕ) → (if bytes_eq entry.name name then Some (record { number = old.count; kind = entry.type }) else variable_named old name) ≡ or_last (0 + length before) entry name (numbered_from 0 before name)
    by name =
        either (bytes_eq entry.name name)
        (λ same.
        let nothing : numbered_from 0 before name ≡ None = sym (numbered.named name) ∙ (ap (variable_named old) (sym (same_bytes entry.name name same)) ∙ none) in
        let n : old.count ≡ 0 + length before = let c = numbered.count in omega arith
        in rw (same, nothing) (rw same (ap (at_number entry.type) n)))
        (λ apart. rw apart (numbered.named name ∙ last name apart (numbered_from 0 before name)))
      where
        last : (name : List ℕ) → bytes_eq entry.name name ≡ false → (given : Option Variable) → given ≡ or_last (0 + length before) entry name given
        last name apart None = rw apart refl
        last name apart (Some found) = refl

-- Maps by bytes ---------------------------------------------------------------------------------------------------------

is_eq-slice_cmp : (xs ys : List ℕ) → is_eq (slice_cmp nat_cmp xs ys) ≡ bytes_eq xs ys
is_eq-slice_cmp xs ys = sym (texts_ties xs ys)

apart_in_order : (bs cs ks : List ℕ) → bytes_eq bs cs ≡ false → is_eq (slice_cmp nat_cmp bs ks) ≡ true → is_eq (slice_cmp nat_cmp cs ks) ≡ false
apart_in_order bs cs ks n y = is_eq-slice_cmp cs ks ∙ (nat_list_eq_equiv.symm cs ks ∙ (sym (nat_list_eq_equiv.congr bs ks cs (sym (is_eq-slice_cmp bs ks) ∙ y)) ∙ n))

module _ {K : Type 0} (eq : K → K → Bool) (test : K → Bool) where
  other_entries : {X : Type 0} (old new : List (K × X)) → KeepsOthers eq test old new → (other : K → Bool) → IsKeyTest eq other → AreApart test other → lookup other new ≡ lookup other old
  unfolding KeepsOthers
  other_entries old new h = h

-- the value at these bytes, behind a change at some bytes
pub updates_bytes : {A X : Type 0} (bs : List ℕ) (m n : BTreeMap (Vec ℕ A) X) (w : Option X) → UpdatesBy (λ x y. slice_cmp nat_cmp x.items y.items) (λ key. slice_cmp nat_cmp bs key.items) m n w
    → (cs : List ℕ) → get_by (λ key. slice_cmp nat_cmp cs key.items) n ≡ (if bytes_eq bs cs then w else get_by (λ key. slice_cmp nat_cmp cs key.items) m)
updates_bytes bs m n w h cs =
    either (bytes_eq bs cs)
    (λ e. rw e (subst (λ ds. get_by (λ key. slice_cmp nat_cmp ds key.items) n ≡ w) (same_bytes bs cs e) h.1))
    (λ e. rw e (other_entries _ _ _ _ h.3 _ (λ x y. (eq_by_cmp_equiv nat_list_cmp_total).congr cs x.items y.items) (λ key. apart_in_order bs cs key.items e)))
