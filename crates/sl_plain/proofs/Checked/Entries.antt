-- The declarations of a scope, as they are kept.
use Rattle.std.proofs.Common.{◌≡◌, ◌&&◌, option_and_then, length-drop, ℕ, ◌+◌, ◌-◌, ◌<◌, ◌≤◌, List, [], ◌∷◌, ◌++◌, length, map, drop, reverse, Bool, true, false, cond, Option, Some, None, refl, sym, ap, ◌∙◌, subst, arith, bytes_eq}
use Rattle.std.proofs.lemmas.List.{length-map, length-reverse, reverse-append, drop-drop}
use Rattle.sl_plain.specs.declared.checking.scopes.Entry.{Entry}
use Rattle.std.proofs.lemmas.Option.{same_Some}
use Rattle.sl_plain.specs.declared.program.Right.{Right}
use Rattle.sl_plain.specs.declared.checking.scopes.Scope.{Scope}
use Rattle.sl_plain.specs.declared.checking.scopes.Variable.{Variable}
use Rattle.std.specs.Map.{update}
use Rattle.sl_plain.specs.Program.{Declared, declaration, right_fits, assigned_fits}
use Rattle.sl_plain.specs.Checking.{entry_of, entries_of, variable_of, Hide, IsIndexed}
use Rattle.sl_plain.proofs.Names.{same_bytes}
use Rattle.sl_plain.proofs.Checked.Seen.{found_in}

-- as they are read
abbrev pub read_of : List Entry → List Declared
read_of entries = map entry_of (reverse entries)

pub read_length : (entries : List Entry) → length (read_of entries) ≡ length entries
read_length entries = simp (length-map, length-reverse)

-- one more entry
last_first : (entries others : List Entry) (last : Entry) → entries ≡ others ++ last ∷ [] → read_of entries ≡ entry_of last ∷ read_of others
last_first entries others last e = ap read_of e ∙ ap (map entry_of) (reverse-append others (last ∷ []))

-- what is left of the names of a block that ends
abbrev pub IsLeft : ℕ → List Declared → List Declared → Type 0
IsLeft len initial now = (len ≤ length now) × (length now ≤ length initial) × (now ≡ drop (length initial - length now) initial)

pub one_less : (len : ℕ) (initial now after : List Declared) → IsLeft len initial now → len < length now → after ≡ drop 1 now → IsLeft len initial after
one_less len initial now after is less e = from (length-drop 1 now)
  where
    from : length (drop 1 now) ≡ length now - 1 → IsLeft len initial after
    from long =
        let size : length after ≡ length now - 1 = ap length e ∙ long in
        let count : (length initial - length now) + 1 ≡ length initial - length after = let le = is.1 in omega arith
        in (omega arith, let le = is.1 in omega arith, e ∙ ap (drop 1) is.2 ∙ drop-drop 1 (length initial - length now) initial ∙ ap (λ n. drop n initial) count)

-- kinds and variables
pub kind_from : (found : Option Declared) → option_and_then (λ (entry : Declared). Some entry.type) found ≡ option_and_then (λ (variable : Variable). Some variable.kind) (variable_of found)
kind_from None = refl
kind_from (Some entry) = refl

pub assigned_from : (scope : List Declared) (found : Option Declared) (variable : Variable) (value : Right) → Some variable ≡ variable_of found → assigned_fits scope found value ≡ (variable.is_var && right_fits scope variable.kind value)
assigned_from scope None variable value e = cc
assigned_from scope (Some entry) variable value e =
    let same : variable ≡ record { is_var = entry.is_var; kind = entry.type } = same_Some variable _ e
    in ap (λ (v : Variable). v.is_var && right_fits scope v.kind value) (sym same)

pub assigned_none : (scope : List Declared) (found : Option Declared) (value : Right) → None ≡ variable_of found → assigned_fits scope found value ≡ false
assigned_none scope None value e = refl
assigned_none scope (Some entry) value e = cc

pub ruleset variable_rules = (kind_from, assigned_from, assigned_none)

-- one more name
one_known : (t : Bool) (entry : Entry) (known : Option Variable) (rest : Option Declared) → known ≡ variable_of rest → cond t (Some entry.variable) known ≡ variable_of (cond t (Some (entry_of entry)) rest)
one_known true entry known rest e = refl
one_known false entry known rest e = e

pub declared_indexed : (scope after : Scope) (entry : Entry) → IsIndexed scope → after.entries.items ≡ scope.entries.items ++ entry ∷ [] → entry.hidden ≡ found_in scope.known entry.name.now
    → ((q : List ℕ) → found_in after.known q ≡ update bytes_eq (found_in scope.known) entry.name.now (Some entry.variable) q) → IsIndexed after
declared_indexed scope after entry is more hidden updates = record {
  known = λ q. updates q
      ∙ one_known (bytes_eq entry.name.now q) entry (found_in scope.known q) (declaration (entries_of scope) q) (is.known q)
      ∙ ap (λ scope. variable_of (declaration scope q)) (sym (last_first after.entries.items scope.entries.items entry more));
  hidden = subst Hide (sym (ap reverse more ∙ reverse-append scope.entries.items (entry ∷ []))) (hidden ∙ is.known entry.name.now, is.hidden);
}

-- one name less
pub left_indexed : (scope after : Scope) (entry : Entry) → IsIndexed scope → scope.entries.items ≡ after.entries.items ++ entry ∷ []
    → ((q : List ℕ) → found_in after.known q ≡ update bytes_eq (found_in scope.known) entry.name.now entry.hidden q) → IsIndexed after
left_indexed scope after entry is more updates =
    let hide : Hide (entry ∷ reverse after.entries.items) = subst Hide (ap reverse more ∙ reverse-append after.entries.items (entry ∷ [])) is.hidden
    in record {
      known = λ q. updates q
          ∙ at q (bytes_eq entry.name.now q) refl (is.known q ∙ ap (λ scope. variable_of (declaration scope q)) (last_first scope.entries.items after.entries.items entry more)) hide.0;
      hidden = hide.1;
    }
  where
    at : (q : List ℕ) (t : Bool) → bytes_eq entry.name.now q ≡ t → found_in scope.known q ≡ variable_of (cond t (Some (entry_of entry)) (declaration (entries_of after) q))
        → entry.hidden ≡ variable_of (declaration (entries_of after) entry.name.now) → cond t entry.hidden (found_in scope.known q) ≡ variable_of (declaration (entries_of after) q)
    at q true e known hidden = hidden ∙ ap (λ name. variable_of (declaration (entries_of after) name)) (same_bytes entry.name.now q e)
    at q false e known hidden = known
