-- Names with tokens between them, as the code reads them: paths, type parameters, and the names of an enum.
use Rattle.std.proofs.Common.{◌≡◌, ℕ, List, [], ◌∷◌, ◌++◌, refl, sym, ap, ◌∙◌, inl, inr, false, true}
use Rattle.sl_text.specs.declared.token.Token.{Token as TokenOf}
use Rattle.sl_text.specs.declared.fault.Fault.{Fault}
use Rattle.sl_grammar.specs.Phrase.{Found, Done, read_token}
use Rattle.sl_grammar.specs.Grammar.{Form, Nothing, Then, Many, is, has}
use Rattle.sl_tree.specs.Sorts.{Spelled, sort, lexeme, left_bracket, right_bracket, right_brace, comma, dot, quoted, separator, symbol}
use Rattle.sl_tree.specs.WellShaped.{names}
use Rattle.sl_tree.specs.declared.tree.Lexeme.{Lexeme}
use Rattle.sl_parse_expr.specs.Told.{head_sort}
use Rattle.sl_parse.specs.Names.{Name, Path, Type_params, Enum_names, T, closed}
use Rattle.sl_parse.specs.Grammar.{Bound}
use Rattle.sl_parse.specs.Told.{Family, found_tree, Faults, IsDone}
use Rattle.sl_parse.proofs.Telling.{tree_in, tree_rule, left_view, token_view, done_none, done_rule, done_token, fault_same, fault_left, fault_rule, fault_then_second, fault_then_token}
use Rattle.sl_parse.proofs.Listing.{more_from, closed_from, more_ends, closed_ends, closed_unclosed, seen_token, listed_names, closed_names, names_goes, closed_names_goes, names_faults, closed_names_faults}

-- so many were read, and more behind: names of a path, type parameters, and names of an enum

abbrev text_of : Spelled → List ℕ
text_of k = k.text

abbrev pub path_from : List (List ℕ) → List Spelled → Found Spelled (List (List ℕ))
path_from xs ts = more_from (dot ∷ []) (seen_token text_of names) xs ts

abbrev pub params_from : List (List ℕ) → List Spelled → Found Spelled (List (List ℕ))
params_from xs ts = closed_from (comma ∷ []) right_bracket (seen_token text_of names) xs ts

abbrev enum_kinds : List ℕ
enum_kinds = quoted ∷ symbol ∷ []

abbrev pub enum_from : List Lexeme → List Spelled → Found Spelled (List Lexeme)
enum_from xs ts = closed_from (separator ∷ []) right_brace (seen_token lexeme enum_kinds) xs ts

abbrev params_form : Form Name
params_form = closed (comma ∷ []) (T names) right_bracket

-- the first

pub path_begins : (ts rest : List Spelled) (k : Spelled) (xs : List (List ℕ)) → read_token (is sort names) ts ≡ Done k rest → xs ≡ k.text ∷ [] → (b : Bound) → found_tree b Path ts ≡ path_from xs rest
path_begins ts rest k xs e s b = tree_rule b Path refl ts ∙ (listed_names text_of names (dot ∷ []) b k ts rest e ∙ ap (λ xs. path_from xs rest) (sym s))

pub params_begins : (ts mid rest : List Spelled) (d k : Spelled) (xs : List (List ℕ)) → has (left_bracket ∷ []) (head_sort ts) ≡ true → read_token (is sort (left_bracket ∷ [])) ts ≡ Done d mid
    → read_token (is sort names) mid ≡ Done k rest → xs ≡ k.text ∷ [] → (b : Bound) → found_tree b Type_params ts ≡ params_from xs rest
params_begins ts mid rest d k xs h o e s b =
    tree_rule b Type_params refl ts
    ∙ (left_view b (Then (T (left_bracket ∷ [])) params_form) Nothing (tree_in Type_params) ts refl h
    ∙ (token_view b (left_bracket ∷ []) params_form (λ v. tree_in Type_params (inl v)) ts d mid o
    ∙ (closed_names text_of names (comma ∷ []) b right_bracket k mid rest e ∙ ap (λ xs. params_from xs rest) (sym s))))

pub enum_begins : (ts rest : List Spelled) (k : Spelled) (xs : List Lexeme) → read_token (is sort enum_kinds) ts ≡ Done k rest → xs ≡ lexeme k ∷ [] → (b : Bound) → found_tree b Enum_names ts ≡ enum_from xs rest
enum_begins ts rest k xs e s b = tree_rule b Enum_names refl ts ∙ (closed_names lexeme enum_kinds (separator ∷ []) b right_brace k ts rest e ∙ ap (λ xs. enum_from xs rest) (sym s))

-- no bracket comes
pub params_none : (ts : List Spelled) (xs : List (List ℕ)) → has (left_bracket ∷ []) (head_sort ts) ≡ false → xs ≡ [] → IsDone (λ b. found_tree b Type_params ts) xs ts
params_none ts xs h s b = done_rule Type_params refl ts (inr tt) ts (done_none (Then (T (left_bracket ∷ [])) params_form) ts h) b ∙ ap (λ xs. Done xs ts) (sym s)

-- one more

pub path_goes : (xs ys : List (List ℕ)) (ts mid rest : List Spelled) (d k : Spelled) → read_token (is sort (dot ∷ [])) ts ≡ Done d mid → read_token (is sort names) mid ≡ Done k rest
    → ys ≡ xs ++ k.text ∷ [] → path_from xs ts ≡ path_from ys rest
path_goes xs ys ts mid rest d k o e s = names_goes text_of names (dot ∷ []) xs ts mid rest d k refl o e ∙ ap (λ xs. path_from xs rest) (sym s)

pub params_goes : (xs ys : List (List ℕ)) (ts mid rest : List Spelled) (d k : Spelled) → read_token (is sort (comma ∷ [])) ts ≡ Done d mid → read_token (is sort names) mid ≡ Done k rest
    → ys ≡ xs ++ k.text ∷ [] → params_from xs ts ≡ params_from ys rest
params_goes xs ys ts mid rest d k o e s = closed_names_goes text_of names (comma ∷ []) right_bracket xs ts mid rest d k refl o e ∙ ap (λ xs. params_from xs rest) (sym s)

pub enum_goes : (xs ys : List Lexeme) (ts mid rest : List Spelled) (d k : Spelled) → read_token (is sort (separator ∷ [])) ts ≡ Done d mid → read_token (is sort enum_kinds) mid ≡ Done k rest
    → ys ≡ xs ++ lexeme k ∷ [] → enum_from xs ts ≡ enum_from ys rest
enum_goes xs ys ts mid rest d k o e s = closed_names_goes lexeme enum_kinds (separator ∷ []) right_brace xs ts mid rest d k refl o e ∙ ap (λ xs. enum_from xs rest) (sym s)

-- all of them

pub path_ends : (xs : List (List ℕ)) (ts : List Spelled) → has (dot ∷ []) (head_sort ts) ≡ false → path_from xs ts ≡ Done xs ts
path_ends xs ts h = more_ends (dot ∷ []) (seen_token text_of names) xs ts h

pub params_ends : (xs : List (List ℕ)) (ts rest : List Spelled) (k : Spelled) → has (comma ∷ []) (head_sort ts) ≡ false → read_token (is sort (right_bracket ∷ [])) ts ≡ Done k rest → params_from xs ts ≡ Done xs rest
params_ends xs ts rest k h e = closed_ends (comma ∷ []) right_bracket (seen_token text_of names) xs ts rest k h e

pub enum_ends : (xs : List Lexeme) (ts rest : List Spelled) (k : Spelled) → has (separator ∷ []) (head_sort ts) ≡ false → read_token (is sort (right_brace ∷ [])) ts ≡ Done k rest → enum_from xs ts ≡ Done xs rest
enum_ends xs ts rest k h e = closed_ends (separator ∷ []) right_brace (seen_token lexeme enum_kinds) xs ts rest k h e

module _ (file : ℕ) (bytes : List ℕ) (tokens : List TokenOf) where
  -- another token stands where the first name does

  pub path_halts : (ts : List Spelled) (e : Fault) → Faults file bytes tokens (λ b. read_token (is sort names) ts) e → Faults file bytes tokens (λ b. found_tree b Path ts) e
  path_halts ts e f = fault_rule file bytes tokens Path refl ts e (fault_then_token file bytes tokens names (Many (Then (T (dot ∷ [])) (T names))) ts e f)

  pub params_halts : (ts mid : List Spelled) (d : Spelled) (e : Fault) → has (left_bracket ∷ []) (head_sort ts) ≡ true → read_token (is sort (left_bracket ∷ [])) ts ≡ Done d mid
      → Faults file bytes tokens (λ b. read_token (is sort names) mid) e → Faults file bytes tokens (λ b. found_tree b Type_params ts) e
  params_halts ts mid d e h o f =
      fault_rule file bytes tokens Type_params refl ts e
      (fault_left file bytes tokens (Then (T (left_bracket ∷ [])) params_form) Nothing ts e refl h
      (fault_then_second file bytes tokens (T (left_bracket ∷ [])) params_form ts d mid e (done_token (left_bracket ∷ []) ts d mid o)
      (fault_then_token file bytes tokens names (Then (Many (Then (T (comma ∷ [])) (T names))) (T (right_bracket ∷ []))) mid e f)))

  pub enum_halts : (ts : List Spelled) (e : Fault) → Faults file bytes tokens (λ b. read_token (is sort enum_kinds) ts) e → Faults file bytes tokens (λ b. found_tree b Enum_names ts) e
  enum_halts ts e f =
      fault_rule file bytes tokens Enum_names refl ts e
      (fault_then_token file bytes tokens enum_kinds (Then (Many (Then (T (separator ∷ [])) (T enum_kinds))) (T (right_brace ∷ []))) ts e f)

  -- another token stands where one more does

  pub path_stops : (f : Family (List (List ℕ))) (xs : List (List ℕ)) (ts mid : List Spelled) (d : Spelled) (e : Fault) → ((b : Bound) → f b ≡ path_from xs ts) → read_token (is sort (dot ∷ [])) ts ≡ Done d mid
      → Faults file bytes tokens (λ b. read_token (is sort names) mid) e → Faults file bytes tokens f e
  path_stops f xs ts mid d e g o h =
      fault_same file bytes tokens (λ b. path_from xs ts) f e g (names_faults file bytes tokens text_of names (dot ∷ []) xs ts mid d e refl o h)

  pub params_stops : (f : Family (List (List ℕ))) (xs : List (List ℕ)) (ts mid : List Spelled) (d : Spelled) (e : Fault) → ((b : Bound) → f b ≡ params_from xs ts) → read_token (is sort (comma ∷ [])) ts ≡ Done d mid
      → Faults file bytes tokens (λ b. read_token (is sort names) mid) e → Faults file bytes tokens f e
  params_stops f xs ts mid d e g o h =
      fault_same file bytes tokens (λ b. params_from xs ts) f e g
      (closed_names_faults file bytes tokens text_of names (comma ∷ []) right_bracket xs ts mid d e refl refl o h)

  pub enum_stops : (f : Family (List Lexeme)) (xs : List Lexeme) (ts mid : List Spelled) (d : Spelled) (e : Fault) → ((b : Bound) → f b ≡ enum_from xs ts) → read_token (is sort (separator ∷ [])) ts ≡ Done d mid
      → Faults file bytes tokens (λ b. read_token (is sort enum_kinds) mid) e → Faults file bytes tokens f e
  enum_stops f xs ts mid d e g o h =
      fault_same file bytes tokens (λ b. enum_from xs ts) f e g
      (closed_names_faults file bytes tokens lexeme enum_kinds (separator ∷ []) right_brace xs ts mid d e refl refl o h)

  -- and where a bracket or a brace closes them

  pub params_unclosed : (f : Family (List (List ℕ))) (xs : List (List ℕ)) (ts : List Spelled) (e : Fault) → ((b : Bound) → f b ≡ params_from xs ts) → has (comma ∷ []) (head_sort ts) ≡ false
      → Faults file bytes tokens (λ b. read_token (is sort (right_bracket ∷ [])) ts) e → Faults file bytes tokens f e
  params_unclosed f xs ts e g n h =
      fault_same file bytes tokens (λ b. params_from xs ts) f e g
      (closed_unclosed file bytes tokens (comma ∷ []) right_bracket (λ b. seen_token text_of names) xs ts e n h)

  pub enum_unclosed : (f : Family (List Lexeme)) (xs : List Lexeme) (ts : List Spelled) (e : Fault) → ((b : Bound) → f b ≡ enum_from xs ts) → has (separator ∷ []) (head_sort ts) ≡ false
      → Faults file bytes tokens (λ b. read_token (is sort (right_brace ∷ [])) ts) e → Faults file bytes tokens f e
  enum_unclosed f xs ts e g n h =
      fault_same file bytes tokens (λ b. enum_from xs ts) f e g
      (closed_unclosed file bytes tokens (separator ∷ []) right_brace (λ b. seen_token lexeme enum_kinds) xs ts e n h)
