-- Operands: what their rules spell are just the trees of level 8 and higher, of 9 behind a minus, and of 10.
use Rattle.std.proofs.Common.{◌≡◌, ℕ, suc, ◌≤◌, List, [], ◌∷◌, ◌++◌, take, refl, sym, ap, ◌∙◌, subst, Bool, true, false, arith, true≢false, if◌then◌else◌, inl, inr, ◌⊎◌}
use Rattle.std.specs.Prelude.{eqb, ◌==◌, bytes_eq, codes}
use Rattle.std.proofs.lemmas.Bool.{eqb-true}
use Rattle.sl_text.specs.declared.place.Span.{Span}
use Rattle.sl_text.specs.declared.token.Kind.{Kind}
use Rattle.sl_text.specs.declared.token.Kind.TheVariants.{Ident, Word, Number, Quoted, Letter, Symbol, Prefixed, Operator, Mark, Separator}
use Rattle.sl_grammar.specs.Grammar.{Form, Token, Ref, Then, Room, Either, has, spells_form}
use Rattle.sl_grammar.specs.Law.{Seen}
use Rattle.sl_grammar.proofs.Grammar.{disjoint_sound, subset_sound}
use Rattle.sl_tree.specs.declared.tree.Lexeme.{Lexeme}
use Rattle.sl_tree.specs.declared.tree.Expr.{Expr, out-Expr}
use Rattle.sl_tree.specs.declared.tree.ExprKind.{ExprKind, out-ExprKind, ExprKind-F}
use Rattle.sl_tree.specs.declared.tree.ExprKind.TheVariants as expr_kind
use Rattle.sl_tree.specs.declared.tree.Else.TheOpen as opened
use Rattle.sl_tree.specs.Sorts.{Spelled, sort, sort_of, sort_of_name, sort_of_word, sort_of_prefixed, sort_of_separator, sort_of_operator, sort_of_mark, lexeme, left_parenthesis, right_parenthesis, left_bracket, right_bracket, left_brace, right_brace, comma, dot, underscore, colon, equals, double_arrow, left_arrow, at_sign, other, if_word, else_word, match_word, case_word, val_word, var_word, while_word, for_word, return_word, this_word, package_word, import_word, class_word, object_word, trait_word, extends_word, with_word, def_word, override_word, plain_name, truth_name, until_name, to_name, contract_name, prefixed, prefixed_l, separator, or_operator, and_operator, equal_operator, less_operator, append_operator, plus_operator, times_operator, number, minus, exclamation, tilde}
use Rattle.sl_tree.specs.WellShaped.{join, cover, expr, Is, names, literals, number_kind, numbered_kind, is_number, IsExpr, literal, name, this, paren, select, given, apply, update, negative, prefix, infix_of, if_of, match_of, if_all, match_all}
use Rattle.sl_tree.proofs.Spans.{last_both, Solid, cover_one, solid_one}
use Rattle.sl_tree.proofs.Trees.{Deep, expr_solid, expr_spanned, expr_deep, expr_span_is, expr_kind_is}
use Rattle.sl_parse_expr.specs.Names.{Minus, Postfix, Prefix, Primary, At, at, Levels, holds, open_to, deeper, fits, head_form}
use Rattle.sl_parse_expr.specs.Values.{Tall, HeadParts, T_of, span_of, token_expr, minus_kind, minus_to, prefix_from, primary_from}
use Rattle.sl_parse_expr.specs.Grammar.{room, choose, spells, AtLeast, number_at, one_of}
use Rattle.sl_parse_expr.proofs.Rooms.{holds_node, holds_one, holds_below, fits_of}
use Rattle.sl_parse_expr.proofs.SeenAt.{SeenAt}

-- which tokens are numbers

record NoNumber (n : ℕ) : Type 0 where
  is : has (number ∷ []) n ≡ false

none : (n : ℕ) → has (number ∷ []) n ≡ false → NoNumber n
none n e = record { is = e }

either : (b : Bool) {x y : ℕ} → NoNumber x → NoNumber y → NoNumber (if b then x else y)
either true p q = p
either false p q = q

no_mark : (text : List ℕ) → NoNumber (sort_of_mark text)
unfolding sort_of_mark
no_mark text =
    either (bytes_eq text (codes "(")) (none left_parenthesis refl)
    (either (bytes_eq text (codes ")")) (none right_parenthesis refl)
    (either (bytes_eq text (codes "[")) (none left_bracket refl)
    (either (bytes_eq text (codes "]")) (none right_bracket refl)
    (either (bytes_eq text (codes "{")) (none left_brace refl)
    (either (bytes_eq text (codes "}")) (none right_brace refl)
    (either (bytes_eq text (codes ",")) (none comma refl)
    (either (bytes_eq text (codes ".")) (none dot refl)
    (either (bytes_eq text (codes "_")) (none underscore refl)
    (either (bytes_eq text (codes ":")) (none colon refl)
    (either (bytes_eq text (codes "=")) (none equals refl)
    (either (bytes_eq text (codes "=>")) (none double_arrow refl)
    (either (bytes_eq text (codes "<-")) (none left_arrow refl)
    (either (bytes_eq text (codes "@")) (none at_sign refl) (none other refl))))))))))))))

no_word : (text : List ℕ) → NoNumber (sort_of_word text)
unfolding sort_of_word
no_word text =
    either (bytes_eq text (codes "if")) (none if_word refl)
    (either (bytes_eq text (codes "else")) (none else_word refl)
    (either (bytes_eq text (codes "match")) (none match_word refl)
    (either (bytes_eq text (codes "case")) (none case_word refl)
    (either (bytes_eq text (codes "val")) (none val_word refl)
    (either (bytes_eq text (codes "var")) (none var_word refl)
    (either (bytes_eq text (codes "while")) (none while_word refl)
    (either (bytes_eq text (codes "for")) (none for_word refl)
    (either (bytes_eq text (codes "return")) (none return_word refl)
    (either (bytes_eq text (codes "this")) (none this_word refl)
    (either (bytes_eq text (codes "package")) (none package_word refl)
    (either (bytes_eq text (codes "import")) (none import_word refl)
    (either (bytes_eq text (codes "class")) (none class_word refl)
    (either (bytes_eq text (codes "object")) (none object_word refl)
    (either (bytes_eq text (codes "trait")) (none trait_word refl)
    (either (bytes_eq text (codes "extends")) (none extends_word refl)
    (either (bytes_eq text (codes "with")) (none with_word refl)
    (either (bytes_eq text (codes "def")) (none def_word refl)
    (either (bytes_eq text (codes "override")) (none override_word refl) (none other refl)))))))))))))))))))

no_name : (text : List ℕ) → NoNumber (sort_of_name text)
unfolding sort_of_name
no_name text =
    either (bytes_eq text (codes "T")) (none truth_name refl)
    (either (bytes_eq text (codes "F")) (none truth_name refl)
    (either (bytes_eq text (codes "until")) (none until_name refl)
    (either (bytes_eq text (codes "to")) (none to_name refl)
    (either (bytes_eq text (codes "Contract")) (none contract_name refl)
    (either (bytes_eq text (codes "Invariant")) (none contract_name refl) (none plain_name refl))))))

no_operator : (text : List ℕ) → NoNumber (sort_of_operator text)
unfolding sort_of_operator
no_operator text =
    either (bytes_eq text (codes "!")) (none exclamation refl)
    (either (bytes_eq text (codes "~")) (none tilde refl)
    (either (bytes_eq text (codes "-")) (none minus refl)
    (either (bytes_eq text (codes "|")) (none or_operator refl)
    (either (bytes_eq text (codes "||")) (none or_operator refl)
    (either (bytes_eq text (codes "|^")) (none or_operator refl)
    (either (bytes_eq text (codes "&")) (none and_operator refl)
    (either (bytes_eq text (codes "&&")) (none and_operator refl)
    (either (bytes_eq text (codes "==")) (none equal_operator refl)
    (either (bytes_eq text (codes "!=")) (none equal_operator refl)
    (either (bytes_eq text (codes "<")) (none less_operator refl)
    (either (bytes_eq text (codes "<=")) (none less_operator refl)
    (either (bytes_eq text (codes ">")) (none less_operator refl)
    (either (bytes_eq text (codes ">=")) (none less_operator refl)
    (either (bytes_eq text (codes "<<")) (none less_operator refl)
    (either (bytes_eq text (codes ">>")) (none less_operator refl)
    (either (bytes_eq text (codes ">>>")) (none less_operator refl)
    (either (bytes_eq text (codes ":+")) (none append_operator refl)
    (either (bytes_eq text (codes "+")) (none plus_operator refl)
    (either (bytes_eq text (codes "*")) (none times_operator refl)
    (either (bytes_eq text (codes "/")) (none times_operator refl)
    (either (bytes_eq text (codes "%")) (none times_operator refl) (none other refl))))))))))))))))))))))

no_prefixed : (text : List ℕ) → NoNumber (sort_of_prefixed text)
unfolding sort_of_prefixed
no_prefixed text = either (bytes_eq (take 2 text) (codes "l\"")) (none prefixed_l refl) (none prefixed refl)

no_separator : (text : List ℕ) → NoNumber (sort_of_separator text)
unfolding sort_of_separator
no_separator text = either (bytes_eq text []) (none separator refl) (none other refl)

no_sort : (kind : Kind) (text : List ℕ) → number_kind kind ≡ false → NoNumber (sort_of kind text)
unfolding sort_of
no_sort Ident text e = no_name text
no_sort Word text e = no_word text
no_sort Number text e = absurd (true≢false e)
no_sort Quoted text e = none _ refl
no_sort Letter text e = none _ refl
no_sort Symbol text e = none _ refl
no_sort Prefixed text e = no_prefixed text
no_sort Operator text e = no_operator text
no_sort Mark text e = no_mark text
no_sort Separator text e = no_separator text

number_sort : (kind : Kind) (text : List ℕ) → number_kind kind ≡ true → has (number ∷ []) (sort_of kind text) ≡ true
unfolding sort_of
number_sort Ident text e = absurd (true≢false (sym e))
number_sort Word text e = absurd (true≢false (sym e))
number_sort Number text e = refl
number_sort Quoted text e = absurd (true≢false (sym e))
number_sort Letter text e = absurd (true≢false (sym e))
number_sort Symbol text e = absurd (true≢false (sym e))
number_sort Prefixed text e = absurd (true≢false (sym e))
number_sort Operator text e = absurd (true≢false (sym e))
number_sort Mark text e = absurd (true≢false (sym e))
number_sort Separator text e = absurd (true≢false (sym e))

pub is_number_sort : (k : Spelled) → number_kind k.kind ≡ true → Is (number ∷ []) k
is_number_sort k e = number_sort k.kind k.text e

pub number_is_kind : (k : Spelled) → Is (number ∷ []) k → number_kind k.kind ≡ true
number_is_kind k e = by (number_kind k.kind) refl
  where
    by : (b : Bool) → number_kind k.kind ≡ b → number_kind k.kind ≡ true
    by true f = f
    by false f = absurd (true≢false (sym e ∙ (no_sort k.kind k.text f).is))

-- the tree of a token

false_of : (b : Bool) → (b ≡ true → ⊥) → b ≡ false
false_of true f = absurd (f refl)
false_of false f = refl

is_one : (x j : ℕ) → has (x ∷ []) j ≡ true → x ≡ j
is_one x j e = by (eqb x j) refl e
  where
    by : (b : Bool) → eqb x j ≡ b → (if b then true else false) ≡ true → x ≡ j
    by true f e = eqb-true x j f
    by false f e = absurd (true≢false (sym e))

pub token_name : (k : Spelled) → Is names k → token_expr k ≡ expr (expr_kind.Name k.text) k.span
unfolding token_expr
token_name k e = ap (λ b. if b then expr (expr_kind.Name k.text) k.span else if sort k == this_word then expr expr_kind.This k.span else expr (expr_kind.Literal false (lexeme k)) k.span) e

other_token : (k : Spelled) → has names (sort k) ≡ false → token_expr k ≡ (if sort k == this_word then expr expr_kind.This k.span else expr (expr_kind.Literal false (lexeme k)) k.span)
unfolding token_expr
other_token k e = ap (λ b. if b then expr (expr_kind.Name k.text) k.span else if sort k == this_word then expr expr_kind.This k.span else expr (expr_kind.Literal false (lexeme k)) k.span) e

pub token_this : (k : Spelled) → Is (this_word ∷ []) k → token_expr k ≡ expr expr_kind.This k.span
token_this k e =
    other_token k (false_of (has names (sort k)) (disjoint_sound (this_word ∷ []) names (sort k) refl e))
    ∙ ap (λ c. if c then expr expr_kind.This k.span else expr (expr_kind.Literal false (lexeme k)) k.span) (sym (ap (λ z. z == this_word) (is_one this_word (sort k) e)))

pub token_literal : (k : Spelled) → Is literals k → token_expr k ≡ expr (expr_kind.Literal false (lexeme k)) k.span
token_literal k e =
    other_token k (false_of (has names (sort k)) (disjoint_sound literals names (sort k) refl e))
    ∙ ap (λ c. if c then expr expr_kind.This k.span else expr (expr_kind.Literal false (lexeme k)) k.span) (false_of (sort k == this_word) no)
  where
    no : (sort k == this_word) ≡ true → ⊥
    no f = disjoint_sound literals (this_word ∷ []) (sort k) refl e (ap (λ z. has (this_word ∷ []) z) (eqb-true (sort k) this_word f))

-- a token that is no name and not `this` is a literal
has_rest : (xs ys : List ℕ) (j : ℕ) → has (xs ++ ys) j ≡ true → has ys j ≡ false → has xs j ≡ true
has_rest [] ys j e f = absurd (true≢false (sym e ∙ f))
has_rest (x ∷ xs) ys j e f = by (eqb x j) e (λ e. has_rest xs ys j e f)
  where
    by : (b : Bool) → (if b then true else has (xs ++ ys) j) ≡ true → (has (xs ++ ys) j ≡ true → has xs j ≡ true) → (if b then true else has xs j) ≡ true
    by true e go = refl
    by false e go = go e

abbrev single : List ℕ
single = literals ++ names ++ this_word ∷ []

token_is : (k : Spelled) (ts : List Spelled) → ts ≡ k ∷ [] → Is single k → IsExpr 10 1 (token_expr k) ts
token_is k ts e h = by (has names (sort k)) refl (has (this_word ∷ []) (sort k)) refl
  where
    span : k.span ≡ cover ts
    span = sym (ap cover e ∙ cover_one k)

    by : (b : Bool) → has names (sort k) ≡ b → (c : Bool) → has (this_word ∷ []) (sort k) ≡ c → IsExpr 10 1 (token_expr k) ts
    by true f c g = name k f e (token_name k f ∙ ap (expr (expr_kind.Name k.text)) span) refl refl
    by false f true g = this k g e (token_this k g ∙ ap (expr expr_kind.This) span) refl refl
    by false f false g =
        let plain : Is literals k = has_rest literals names (sort k) (has_rest (literals ++ names) (this_word ∷ []) (sort k) h g) f in
        literal k plain e (token_literal k plain ∙ ap (expr (expr_kind.Literal false (lexeme k))) span) refl refl

-- spans

cover_front : (k : Spelled) (us : List Spelled) → Solid us → cover (k ∷ us) ≡ join k.span (cover us)
unfolding cover
cover_front k us s = ap (λ w. cover (k ∷ w)) s.is ∙ sym (ap (λ w. join k.span (cover w)) s.is)

cover_wrapped : (k : Spelled) (us : List Spelled) (j : Spelled) → cover (k ∷ (us ++ j ∷ [])) ≡ join k.span j.span
unfolding cover
cover_wrapped k us j = ap (λ l. join k.span l.span) (last_both k us j [])

-- no suffix belongs to it

-- where there is room below a node of this height, there is room for its child
fits_at : (r : Levels) (n m : ℕ) → n ≡ suc m → Deep m → holds r n ≡ true → fits r ≡ true
fits_at r n m e d h = fits_of r d.below (ap (holds r) (sym (e ∙ ap suc d.is)) ∙ h)

child_holds : (r : Levels) (n m : ℕ) → n ≡ suc m → holds r n ≡ true → holds (deeper r) m ≡ true
child_holds r n m e h = holds_below r m (ap (holds r) (sym e) ∙ h)

abbrev primary_form : Levels → Form At
primary_form r = Room (fits r) (head_form (deeper r)) (Token single)

pub seen_primary : (r : Levels) → open_to r ≡ true → SeenAt Primary r
seen_primary r o = record { to = to; back = λ t ts w. from w.2 w.1 w.3 }
  where
    to : (x : HeadParts ⊎ Spelled) (ts : List Spelled) → spells_form sort T_of room spells (primary_form r) x ts → AtLeast 10 r (primary_from x) ts
    to (inl (k, (x, j))) ts (f, (a, b, e, (p, is), (c, d, g, (l, le, dx, h), (q, js)))) =
        (10, omega arith, paren k j is dx js tokens (ap (expr (expr_kind.Paren x.0)) (sym (ap cover tokens ∙ cover_wrapped k c j))) refl refl, holds_node r x.1 o h)
      where
        tokens : ts ≡ k ∷ (c ++ j ∷ [])
        tokens = e ∙ (ap (λ z. z ++ b) p ∙ ap (λ z. k ∷ z) (g ∙ ap (λ z. c ++ z) q))
    to (inr k) ts (e, h) = (10, omega arith, token_is k ts e h, holds_one r o)

    Parts : Tall Expr → List Spelled → Type 0
    Parts t ts = (x : HeadParts ⊎ Spelled) × (primary_from x ≡ t) × spells_form sort T_of room spells (primary_form r) x ts

    token : (k : Spelled) (ts : List Spelled) (e : Expr) (n : ℕ) (kind : ExprKind) → Is single k → ts ≡ k ∷ [] → token_expr k ≡ expr kind k.span → e ≡ expr kind (cover ts) → n ≡ 1 → Parts (e, n) ts
    token k ts e n kind h t p q one =
        (inr k, ap (λ z. (z, 1)) (p ∙ (ap (expr kind) (sym (ap cover t ∙ cover_one k)) ∙ sym q)) ∙ ap (λ z. (e, z)) (sym one), (t, h))

    from : {level n : ℕ} {e : Expr} {ts : List Spelled} → IsExpr level n e ts → 10 ≤ level → holds r n ≡ true → Parts (e, n) ts
    from {level} {n} {e} {ts} (literal k h1 h2 h3 h4 h5) u h = token k ts e n _ (subset_sound literals single (sort k) refl h1) h2 (token_literal k h1) h3 h5
    from {level} {n} {e} {ts} (name k h1 h2 h3 h4 h5) u h = token k ts e n _ (subset_sound names single (sort k) refl h1) h2 (token_name k h1) h3 h5
    from {level} {n} {e} {ts} (this k h1 h2 h3 h4 h5) u h = token k ts e n _ (subset_sound (this_word ∷ []) single (sort k) refl h1) h2 (token_this k h1) h3 h5
    from {level} {n} {e} {ts} (paren {inner = inner} {m = m} {x = x} {us = us} k j h1 h2 h3 h4 h5 h6 h7) u h = (
      inl (k, ((x, m), j)),
      ap (λ z. (z, suc m)) (ap (expr (expr_kind.Paren x)) (sym (ap cover h4 ∙ cover_wrapped k us j)) ∙ sym h5) ∙ ap (λ z. (e, z)) (sym h7),
      (fits_at r n m h7 (expr_deep h2) h, (k ∷ [], us ++ j ∷ [], h4, (refl, h1), (us, j ∷ [], refl, (inner, omega arith, h2, child_holds r n m h7 h), (refl, h3)))),
    )
    from (select d k h1 h2 h3 h4 h5 h6 h7 h8) u h = absurd (omega arith)
    from (given k j h1 h2 h3 h4 h5 h6 h7 h8 h9) u h = absurd (omega arith)
    from (apply k j h1 h2 h3 h4 h5 h6 h7 h8 h9) u h = absurd (omega arith)
    from (update k j h1 h2 h3 h4 h5 h6 h7 h8 h9) u h = absurd (omega arith)
    from (negative k j h1 h2 h3 h4 h5 h6) u h = absurd (omega arith)
    from (prefix k h1 h2 h3 h4 h5 h6 h7 h8) u h = absurd (omega arith)
    from (infix_of k h1 h2 h3 h4 h5 h6 h7 h8 h9 h10) u h = absurd (omega arith)
    from (if_of h1 h2) u h = absurd (omega arith)
    from (match_of h1 h2) u h = absurd (omega arith)

pub seen_minus : (r : Levels) → open_to r ≡ true → SeenAt Minus r
seen_minus r o = by (fits r)
  where
    below : Form At
    below = Ref (at Postfix (deeper r))

    alone : Form At
    alone = Token (number ∷ [])

    by : (b : Bool)
        → Seen (spells_form sort T_of room spells (if b then below else alone)) (λ v. choose below alone b (λ v. v) (λ k. (token_expr k, 1)) v) (λ v ts. one_of b (AtLeast 9 (deeper r) v ts) (number_at v ts))
    by true = record { to = λ x ts w. w; back = λ t ts w. (t, refl, w) }
    by false = record { to = λ k ts w. (k, w.0, w.1, refl); back = λ t ts w. (w.0, sym w.3, (w.1, w.2)) }

-- a minus before an operand: one node, where that is a number

literal_is : (b : Bool) (token : Lexeme) (s : Span) → is_number (expr (expr_kind.Literal b token) s) ≡ (if b then false else number_kind token.kind)
unfolding is_number out-ExprKind denote.Hole.Carrier.out
literal_is b token s = ap (λ z. numbered_kind (out-ExprKind z)) (expr_kind_is (expr_kind.Literal b token) s)

not_number : (kind : ExprKind) (e : Expr) (s : Span) → numbered_kind (out-ExprKind kind) ≡ false → e ≡ expr kind s → is_number e ≡ false
unfolding is_number
not_number kind e s f q = ap (λ z. numbered_kind (out-ExprKind (out-Expr z).kind)) q ∙ (ap (λ z. numbered_kind (out-ExprKind z)) (expr_kind_is kind s) ∙ f)

abbrev OneNumber : ℕ → Expr → List Spelled → Type 0
OneNumber n e ts = (k : Spelled) × (ts ≡ k ∷ []) × Is (number ∷ []) k × (e ≡ expr (expr_kind.Literal false (lexeme k)) (cover ts)) × (n ≡ 1)

number_is : {level n : ℕ} {e : Expr} {ts : List Spelled} → IsExpr level n e ts → is_number e ≡ true → OneNumber n e ts
unfolding out-ExprKind denote.Hole.Carrier.out
number_is (literal k h1 h2 h3 h4 h5) f = (k, h2, is_number_sort k (sym (literal_is false (lexeme k) _) ∙ (sym (ap is_number h3) ∙ f)), h3, h5)
number_is (name k h1 h2 h3 h4 h5) f = absurd (true≢false (sym f ∙ not_number (expr_kind.Name k.text) _ _ refl h3))
number_is (this k h1 h2 h3 h4 h5) f = absurd (true≢false (sym f ∙ not_number _ _ _ refl h3))
number_is (paren k j h1 h2 h3 h4 h5 h6 h7) f = absurd (true≢false (sym f ∙ not_number _ _ _ refl h5))
number_is (select d k h1 h2 h3 h4 h5 h6 h7 h8) f = absurd (true≢false (sym f ∙ not_number _ _ _ refl h6))
number_is (given k j h1 h2 h3 h4 h5 h6 h7 h8 h9) f = absurd (true≢false (sym f ∙ not_number _ _ _ refl h7))
number_is (apply k j h1 h2 h3 h4 h5 h6 h7 h8 h9) f = absurd (true≢false (sym f ∙ not_number _ _ _ refl h7))
number_is (update k j h1 h2 h3 h4 h5 h6 h7 h8 h9) f = absurd (true≢false (sym f ∙ not_number _ _ _ refl h7))
number_is (negative k j h1 h2 h3 h4 h5 h6) f = absurd (true≢false (sym f ∙ not_number _ _ _ refl h4))
number_is (prefix k h1 h2 h3 h4 h5 h6 h7 h8) f = absurd (true≢false (sym f ∙ not_number _ _ _ refl h6))
number_is (infix_of k h1 h2 h3 h4 h5 h6 h7 h8 h9 h10) f = absurd (true≢false (sym f ∙ not_number _ _ _ refl h9))
number_is (if_of (if_all i p q s h1 h2 h3 h4 h5 h6 h7 h8 h9 h10) g) f = absurd (true≢false (sym f ∙ not_number _ _ _ refl h9))
number_is (match_of (match_all h1 h2 h3 h4 h5 h6) g) f = absurd (true≢false (sym f ∙ not_number _ _ _ refl h5))

-- the tree of a prefix
abbrev prefixed_to : Spelled → Tall Expr → Tall Expr
prefixed_to k x = (expr (expr_kind.Prefix k.text x.0) (join k.span (span_of x.0)), suc x.1)

minus_other : {A B C D E F G : Type 0} (k : Spelled) (x : Tall Expr) (o : ExprKind-F A B C D E F G) → numbered_kind o ≡ false → minus_kind k x o ≡ prefixed_to k x
minus_other k x (opened.Literal b token) f = by b (number_kind token.kind) f
  where
    by : (b c : Bool) → (if b then false else c) ≡ false
        → (if b then prefixed_to k x else if c then (expr (expr_kind.Literal true token) (join k.span (span_of x.0)), x.1) else prefixed_to k x) ≡ prefixed_to k x
    by true c f = refl
    by false true f = absurd (true≢false f)
    by false false f = refl
minus_other k x o f = refl

minus_plain : (k : Spelled) (x : Tall Expr) → is_number x.0 ≡ false → minus_to k x ≡ prefixed_to k x
unfolding minus_to is_number
minus_plain k x f = minus_other k x (out-ExprKind (out-Expr x.0).kind) f

minus_number : (k j : Spelled) (x : Tall Expr) (s : Span) → x.0 ≡ expr (expr_kind.Literal false (lexeme j)) s → Is (number ∷ []) j
    → minus_to k x ≡ (expr (expr_kind.Literal true (lexeme j)) (join k.span (span_of x.0)), x.1)
unfolding minus_to out-ExprKind denote.Hole.Carrier.out
minus_number k j x s e h =
    ap (λ z. minus_kind k x (out-ExprKind (out-Expr z).kind)) e ∙ (ap (λ z. minus_kind k x (out-ExprKind z)) (expr_kind_is (expr_kind.Literal false (lexeme j)) s)
    ∙ ap (λ b. if b then (expr (expr_kind.Literal true (lexeme j)) (join k.span (span_of x.0)), x.1) else prefixed_to k x) (number_is_kind j h))

-- operands, with a prefix or without

abbrev minus_form : Levels → Form At
minus_form r = Then (Token (minus ∷ [])) (Ref (at Minus r))

abbrev prefix_form : Levels → Form At
prefix_form r = Either (minus_form r) (Room (fits r) (Then (Token (exclamation ∷ tilde ∷ [])) (Ref (at Postfix (deeper r)))) (Ref (at Postfix r)))

abbrev PrefixParts : Type 0
PrefixParts = (Spelled × Tall Expr) ⊎ ((Spelled × Tall Expr) ⊎ Tall Expr)

later : (x : ℕ) (xs : List ℕ) (j : ℕ) → has (x ∷ xs) j ≡ true → has (x ∷ []) j ≡ false → has xs j ≡ true
later x xs j e f = by (eqb x j) e f
  where
    by : (b : Bool) → (if b then true else has xs j) ≡ true → (if b then true else false) ≡ false → has xs j ≡ true
    by true e f = absurd (true≢false f)
    by false e f = e

one_true : (b : Bool) (X Y : Type 0) → b ≡ true → X → one_of b X Y
one_true true X Y e x = x
one_true false X Y e x = absurd (true≢false (sym e))

prefix_span : (k : Spelled) (x : Expr) (us ts : List Spelled) → Solid us → span_of x ≡ cover us → ts ≡ k ∷ us → join k.span (span_of x) ≡ cover ts
prefix_span k x us ts s e t = ap (join k.span) e ∙ (sym (cover_front k us s) ∙ sym (ap cover t))

module _ (r : Levels) (o : open_to r ≡ true) where
  prefixed_at : {l m : ℕ} {x : Expr} {us : List Spelled} (k : Spelled) (ts : List Spelled) → Is (minus ∷ exclamation ∷ tilde ∷ []) k → IsExpr l m x us → 9 ≤ l
      → (Is (minus ∷ []) k → is_number x ≡ false) → ts ≡ k ∷ us → holds (deeper r) m ≡ true → AtLeast 8 r (prefixed_to k (x, m)) ts
  prefixed_at {l} {m} {x} {us} k ts is d le other_than t h =
      (8, omega arith, prefix k is d le other_than t (ap (expr (expr_kind.Prefix k.text x)) (prefix_span k x us ts (expr_solid d) (expr_spanned d) t)) refl refl, holds_node r m o h)

  -- a minus before a number
  negative_at : (k j : Spelled) (x : Tall Expr) (s : Span) (us ts : List Spelled) → Is (minus ∷ []) k → Is (number ∷ []) j → us ≡ j ∷ [] → ts ≡ k ∷ us
      → x.0 ≡ expr (expr_kind.Literal false (lexeme j)) s → span_of x.0 ≡ cover us → x.1 ≡ 1 → AtLeast 8 r (minus_to k x) ts
  negative_at k j x s us ts is js u t e span one =
      subst (λ v. AtLeast 8 r v ts) (sym (minus_number k j x s e js)) (
        8,
        omega arith,
        negative k j is js (t ∙ ap (λ z. k ∷ z) u) (ap (expr (expr_kind.Literal true (lexeme j))) (prefix_span k x.0 us ts (record { head = j; rest = []; is = u }) span t)) refl one,
        ap (holds r) one ∙ holds_one r o,
      )

  minus_at : (k : Spelled) (x : Tall Expr) (us ts : List Spelled) → Is (minus ∷ []) k → ts ≡ k ∷ us → (b : Bool) → one_of b (AtLeast 9 (deeper r) x us) (number_at x us) → AtLeast 8 r (minus_to k x) ts
  minus_at k x us ts is t true (l, le, d, h) = by (is_number x.0) refl
    where
      by : (b : Bool) → is_number x.0 ≡ b → AtLeast 8 r (minus_to k x) ts
      by true f = let n = number_is d f in negative_at k n.0 x _ us ts is n.2 n.1 t n.3 (expr_spanned d) n.4
      by false f = subst (λ v. AtLeast 8 r v ts) (sym (minus_plain k x f)) (prefixed_at k ts (subset_sound (minus ∷ []) (minus ∷ exclamation ∷ tilde ∷ []) (sort k) refl is) d le (λ g. f) t h)
  minus_at k x us ts is t false (j, u, js, e) =
      let lit : Is literals j = subset_sound (number ∷ []) literals (sort j) refl js in
      let tree : x.0 ≡ expr (expr_kind.Literal false (lexeme j)) j.span = ap (λ v. v.0) e ∙ token_literal j lit in
      negative_at k j x j.span us ts is js u t tree (ap span_of tree ∙ (expr_span_is _ _ ∙ sym (ap cover u ∙ cover_one j))) (ap (λ v. v.1) e)

  prefix_to : (x : PrefixParts) (ts : List Spelled) → spells_form sort T_of room spells (prefix_form r) x ts → AtLeast 8 r (prefix_from x) ts
  prefix_to (inl (k, x)) ts (a, b, e, (p, is), w) = minus_at k x b ts is (e ∙ ap (λ z. z ++ b) p) (fits r) w
  prefix_to (inr (inl (k, x))) ts (f, (a, b, e, (p, is), (l, le, d, h))) =
      prefixed_at k ts (subset_sound (exclamation ∷ tilde ∷ []) (minus ∷ exclamation ∷ tilde ∷ []) (sort k) refl is) d le
      (λ g. absurd (disjoint_sound (exclamation ∷ tilde ∷ []) (minus ∷ []) (sort k) refl is g)) (e ∙ ap (λ z. z ++ b) p) h
  prefix_to (inr (inr x)) ts (l, le, d, h) = (l, omega arith, d, h)

  -- the way back: what comes from which parts
  abbrev PrefixFrom : Tall Expr → List Spelled → Type 0
  PrefixFrom t ts = (x : PrefixParts) × (prefix_from x ≡ t) × spells_form sort T_of room spells (prefix_form r) x ts

  bare : {l n : ℕ} {e : Expr} {ts : List Spelled} → IsExpr l n e ts → 9 ≤ l → holds r n ≡ true → PrefixFrom (e, n) ts
  bare {l} {n} {e} {ts} d u h = (inr (inr (e, n)), refl, (l, u, d, h))

  negative_from : (k j : Spelled) (e : Expr) (n : ℕ) (ts : List Spelled) → Is (minus ∷ []) k → Is (number ∷ []) j → ts ≡ k ∷ j ∷ [] → e ≡ expr (expr_kind.Literal true (lexeme j)) (cover ts) → n ≡ 1
      → PrefixFrom (e, n) ts
  negative_from k j e n ts is js t same one = (inl (k, (token_expr j, 1)), whole, (k ∷ [], j ∷ [], t, (refl, is), part (fits r) refl))
    where
      lit : Is literals j
      lit = subset_sound (number ∷ []) literals (sort j) refl js

      whole : minus_to k (token_expr j, 1) ≡ (e, n)
      whole =
          minus_number k j (token_expr j, 1) j.span (token_literal j lit) js
          ∙ (ap (λ s. (expr (expr_kind.Literal true (lexeme j)) s, 1)) (prefix_span k (token_expr j) (j ∷ []) ts (solid_one j []) (ap span_of (token_literal j lit) ∙ (expr_span_is _ _ ∙ sym (cover_one j))) t)
          ∙ (ap (λ z. (z, 1)) (sym same) ∙ ap (λ z. (e, z)) (sym one)))

      part : (b : Bool) → fits r ≡ b → one_of b (AtLeast 9 (deeper r) (token_expr j, 1) (j ∷ [])) (number_at (token_expr j, 1) (j ∷ []))
      part true f = (10, omega arith, token_is j (j ∷ []) refl (subset_sound literals single (sort j) refl lit), holds_one (deeper r) f)
      part false f = (j, refl, js, refl)

  prefixed_from : {l m : ℕ} {x : Expr} {us : List Spelled} (k : Spelled) (e : Expr) (n : ℕ) (ts : List Spelled) → Is (minus ∷ exclamation ∷ tilde ∷ []) k → IsExpr l m x us → 9 ≤ l
      → (Is (minus ∷ []) k → is_number x ≡ false) → ts ≡ k ∷ us → e ≡ expr (expr_kind.Prefix k.text x) (cover ts) → n ≡ suc m → holds r n ≡ true → PrefixFrom (e, n) ts
  prefixed_from {l} {m} {x} {us} k e n ts is d le other_than t same more h = by (has (minus ∷ []) (sort k)) refl
    where
      below : fits r ≡ true
      below = fits_at r n m more (expr_deep d) h

      part : AtLeast 9 (deeper r) (x, m) us
      part = (l, le, d, child_holds r n m more h)

      whole : prefixed_to k (x, m) ≡ (e, n)
      whole =
          ap (λ s. (expr (expr_kind.Prefix k.text x) s, suc m)) (prefix_span k x us ts (expr_solid d) (expr_spanned d) t)
          ∙ (ap (λ z. (z, suc m)) (sym same) ∙ ap (λ z. (e, z)) (sym more))

      by : (b : Bool) → has (minus ∷ []) (sort k) ≡ b → PrefixFrom (e, n) ts
      by true f = (inl (k, (x, m)), minus_plain k (x, m) (other_than f) ∙ whole, (k ∷ [], us, t, (refl, f), one_true (fits r) _ (number_at (x, m) us) below part))
      by false f = (inr (inl (k, (x, m))), whole, (below, (k ∷ [], us, t, (refl, later minus (exclamation ∷ tilde ∷ []) (sort k) is f), part)))

  prefix_back : {level n : ℕ} {e : Expr} {ts : List Spelled} → IsExpr level n e ts → 8 ≤ level → holds r n ≡ true → PrefixFrom (e, n) ts
  prefix_back (literal k h1 h2 h3 h4 h5) u h = bare (literal k h1 h2 h3 h4 h5) (omega arith) h
  prefix_back (name k h1 h2 h3 h4 h5) u h = bare (name k h1 h2 h3 h4 h5) (omega arith) h
  prefix_back (this k h1 h2 h3 h4 h5) u h = bare (this k h1 h2 h3 h4 h5) (omega arith) h
  prefix_back (paren k j h1 h2 h3 h4 h5 h6 h7) u h = bare (paren k j h1 h2 h3 h4 h5 h6 h7) (omega arith) h
  prefix_back (select d k h1 h2 h3 h4 h5 h6 h7 h8) u h = bare (select d k h1 h2 h3 h4 h5 h6 h7 h8) (omega arith) h
  prefix_back (given k j h1 h2 h3 h4 h5 h6 h7 h8 h9) u h = bare (given k j h1 h2 h3 h4 h5 h6 h7 h8 h9) (omega arith) h
  prefix_back (apply k j h1 h2 h3 h4 h5 h6 h7 h8 h9) u h = bare (apply k j h1 h2 h3 h4 h5 h6 h7 h8 h9) (omega arith) h
  prefix_back (update k j h1 h2 h3 h4 h5 h6 h7 h8 h9) u h = bare (update k j h1 h2 h3 h4 h5 h6 h7 h8 h9) (omega arith) h
  prefix_back {n = n} {e = e} {ts = ts} (negative k j h1 h2 h3 h4 h5 h6) u h = negative_from k j e n ts h1 h2 h3 h4 h6
  prefix_back {n = n} {e = e} {ts = ts} (prefix k h1 h2 h3 h4 h5 h6 h7 h8) u h = prefixed_from k e n ts h1 h2 h3 h4 h5 h6 h8 h
  prefix_back (infix_of k h1 h2 h3 h4 h5 h6 h7 h8 h9 h10) u h = absurd (omega arith)
  prefix_back (if_of h1 h2) u h = absurd (omega arith)
  prefix_back (match_of h1 h2) u h = absurd (omega arith)

pub seen_prefix : (r : Levels) → open_to r ≡ true → SeenAt Prefix r
seen_prefix r o = record { to = prefix_to r o; back = λ t ts w. prefix_back r o w.2 w.1 w.3 }
