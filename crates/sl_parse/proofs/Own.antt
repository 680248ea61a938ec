-- What is read in its own way obeys the law: types, expressions and blocks, by the grammar of sl_parse_expr, and the library's import.
use Rattle.std.proofs.Common.{◌≡◌, ℕ, suc, List, [], ◌∷◌, ◌++◌, refl, sym, ap, ◌∙◌, Bool, true, false, if◌then◌else◌, arith}
use Rattle.std.specs.Prelude.{Option, Some, bytes_eq, codes}
use Rattle.std.proofs.lemmas.Bool.{leb-true, le-leb}
use Rattle.std.proofs.lemmas.Slice.Eq.{bytes_eq-Decides}
use Rattle.sl_text.specs.declared.place.Span.{Span}
use Rattle.sl_text.specs.declared.token.Kind.TheVariants.{Ident}
use Rattle.sl_grammar.specs.Phrase.{spells_token, spells_both}
use Rattle.sl_grammar.specs.Law.{Disjoint, Seen, Piece, no_token}
use Rattle.sl_grammar.specs.Grammar.{has, is, marks_of}
use Rattle.sl_grammar.proofs.Grammar.{and_left, and_right}
use Rattle.sl_grammar.proofs.Rules.{Own}
use Rattle.sl_grammar.proofs.Pieces.{token_piece, both_piece, seen_piece}
use Rattle.sl_tree.specs.declared.tree.TypeTerm.{TypeTerm}
use Rattle.sl_tree.specs.declared.tree.Expr.{Expr}
use Rattle.sl_tree.specs.declared.tree.Stmt.{Stmt}
use Rattle.sl_tree.specs.Sorts.{Spelled, sort, sort_of, sort_of_mark, sort_of_name, sort_of_word, example, made, dot, underscore, import_word}
use Rattle.sl_tree.specs.WellShaped.{names as identifiers, join, cover}
use Rattle.sl_tree.specs.Declarations.{Keeps, Named, library_all}
use Rattle.sl_tree.proofs.Spans.{Solid}
use Rattle.sl_tree.proofs.Trees.{type_solid, type_spanned, expr_solid, expr_spanned}
use Rattle.sl_parse_expr.specs.Names.{Type_term as A_type, Expression as An_expression, Block as A_block, Name as Phrase, holds, open_to}
use Rattle.sl_parse_expr.specs.Values.{Tall, BlockParts}
use Rattle.sl_parse_expr.specs.Grammar.{spells_at, valid_at, read as read_phrase, sets_at as sets_within}
use Rattle.sl_parse_expr.proofs.Laws.{law, shape_of}
use Rattle.sl_parse_expr.proofs.AllSeen.{all_seen}
use Rattle.sl_parse_expr.proofs.SeenTypes.{cover_around}
use Rattle.sl_parse_expr.proofs.SeenBlocks.{block_to, block_back}
use Rattle.sl_parse_expr.proofs.SeenCases.{one_before, then_is}
use Rattle.sl_parse.specs.Names.{Name, Type_term, Expression, Block, Library}
use Rattle.sl_parse.specs.Values.{Covered, T_of, whole}
use Rattle.sl_parse.specs.Grammar.{Bound, Limited, Unlimited, limit_of, grammar, sets_at, own_at, room, tree, spells, is_named, LibraryParts, read_library, library_value, type_value, expr_value, block_value, by_hand_at, by_hand}

-- there is room for levels within a limit

keeps : (b : Bound) (n : ℕ) → holds (limit_of b) n ≡ true → Keeps (limit_of b) n
keeps Limited n e = leb-true n 64 e
keeps Unlimited n e = tt

held : (b : Bound) (n : ℕ) → Keeps (limit_of b) n → holds (limit_of b) n ≡ true
held Limited n k = le-leb n 64 k
held Unlimited n k = refl

open_is : (b : Bound) → open_to (limit_of b) ≡ true
open_is Limited = refl
open_is Unlimited = refl

-- the span of tokens that are one at least
whole_is : {ts : List Spelled} {s : Span} → Solid ts → s ≡ cover ts → Some s ≡ whole ts
whole_is a e = ap Some e ∙ (ap (λ w. Some (cover w)) a.is ∙ sym (ap whole a.is))

-- a tree with the span of its tokens is known by the tree
covered : {X : Type 0} (x : X) {s : Span} {o w : Option Span} → Some s ≡ w → o ≡ w → ◌≡◌ {A = Covered X} (x, Some s) (x, o)
covered x e f = ap (λ z. (x, z)) (e ∙ sym f)

-- a phrase that is read by the grammar of sl_parse_expr
phrase_piece : (b : Bound) (n : Phrase) → valid_at n (limit_of b) ≡ true → (size : ℕ) → Piece (spells_at n (limit_of b)) (read_phrase (limit_of b) n) (marks_of sort (sets_within n (limit_of b))) size
phrase_piece b n v size = record { shape = shape_of all_seen n (limit_of b) v; law = law all_seen size n (limit_of b) v }

-- what it spells, seen as its tree and the span of its tokens

type_seen : (b : Bound) → Seen (spells_at A_type (limit_of b)) type_value (spells (limit_of b) Type_term)
type_seen b = record { to = to; back = back }
  where
    to : (v : Tall TypeTerm) (ts : List Spelled) → spells_at A_type (limit_of b) v ts → spells (limit_of b) Type_term (type_value v) ts
    to v ts (h, o) = ((v.1, h, keeps b v.1 o), whole_is (type_solid h) (type_spanned h))

    back : (x : Covered TypeTerm) (ts : List Spelled) → spells (limit_of b) Type_term x ts → (v : Tall TypeTerm) × (type_value v ≡ x) × spells_at A_type (limit_of b) v ts
    back (x, s) ts ((n, h, k), e) = ((x, n), covered x (whole_is (type_solid h) (type_spanned h)) e, (h, held b n k))

expr_seen : (b : Bound) → Seen (spells_at An_expression (limit_of b)) expr_value (spells (limit_of b) Expression)
expr_seen b = record { to = to; back = back }
  where
    to : (v : Tall Expr) (ts : List Spelled) → spells_at An_expression (limit_of b) v ts → spells (limit_of b) Expression (expr_value v) ts
    to v ts (l, z, h, o) = ((v.1, (l, h), keeps b v.1 o), whole_is (expr_solid h) (expr_spanned h))

    back : (x : Covered Expr) (ts : List Spelled) → spells (limit_of b) Expression x ts → (v : Tall Expr) × (expr_value v ≡ x) × spells_at An_expression (limit_of b) v ts
    back (x, s) ts ((n, (l, h), k), e) = ((x, n), covered x (whole_is (expr_solid h) (expr_spanned h)) e, (l, omega arith, h, held b n k))

-- from its first brace to its last
block_whole : (b : Bound) (v : BlockParts) (ts : List Spelled) → spells_at A_block (limit_of b) v ts → Some (join v.0.span v.1.1.span) ≡ whole ts
block_whole b (p, (body, q)) ts (a1, b1, e1, (f1, h1), (us, b2, e2, h2, (f3, h3))) =
    let are : ts ≡ p ∷ (us ++ q ∷ []) = one_before e1 f1 ∙ ap (λ w. p ∷ w) (then_is us e2 f3) in
    whole_is (record { head = p; rest = us ++ q ∷ []; is = are }) (sym (ap cover are ∙ cover_around p us q))

block_seen : (b : Bound) → Seen (spells_at A_block (limit_of b)) block_value (spells (limit_of b) Block)
block_seen b = record { to = to; back = back }
  where
    to : (v : BlockParts) (ts : List Spelled) → spells_at A_block (limit_of b) v ts → spells (limit_of b) Block (block_value v) ts
    to v ts w = let (h, o) = block_to (limit_of b) v ts w in ((v.1.0.1, h, keeps b v.1.0.1 o), block_whole b v ts w)

    back : (x : Covered (List Stmt)) (ts : List Spelled) → spells (limit_of b) Block x ts → (v : BlockParts) × (block_value v ≡ x) × spells_at A_block (limit_of b) v ts
    back (x, s) ts ((n, h, k), e) =
        let (p, q, w) = block_back (limit_of b) h (held b n k) in
        ((p, ((x, n), q)), covered x (block_whole b (p, ((x, n), q)) ts w) e, w)

-- the library's import, token by token

named_to : (text : List ℕ) (k : Spelled) → is_named text k ≡ true → Named text k
named_to text k e =
    let p = has identifiers (sort k) in
    let q = bytes_eq k.text text in
    (and_left p q e, (bytes_eq-Decides k.text text).0 (and_right p q e))

named_back : (text : List ℕ) (k : Spelled) → Named text k → is_named text k ≡ true
named_back text k (h, e) = ap (λ c. if c then bytes_eq k.text text else false) h ∙ (bytes_eq-Decides k.text text).1 e

abbrev SpellsLibrary : LibraryParts → List Spelled → Type 0
SpellsLibrary v ts =
    spells_both (spells_token (is sort (import_word ∷ []))) (spells_both (spells_token (is_named (codes "org"))) (spells_both (spells_token (is sort (dot ∷ [])))
    (spells_both (spells_token (is_named (codes "sireum"))) (spells_both (spells_token (is sort (dot ∷ []))) (spells_token (is sort (underscore ∷ []))))))) v ts

-- nothing goes on after a token
ends_here : (p : Spelled → Bool) → Disjoint no_token p
ends_here p k e f = cc

import_is : is sort (import_word ∷ []) (example import_word) ≡ true
unfolding example sort_of sort_of_word
import_is = refl

org_is : is_named (codes "org") (made Ident (codes "org")) ≡ true
unfolding sort_of sort_of_name
org_is = refl

dot_is : is sort (dot ∷ []) (example dot) ≡ true
unfolding example sort_of sort_of_mark
dot_is = refl

sireum_is : is_named (codes "sireum") (made Ident (codes "sireum")) ≡ true
unfolding sort_of sort_of_name
sireum_is = refl

underscore_is : is sort (underscore ∷ []) (example underscore) ≡ true
unfolding example sort_of sort_of_mark
underscore_is = refl

tokens_piece : (size : ℕ) → Piece SpellsLibrary read_library (marks_of sort (sets_at Library)) size
tokens_piece size =
    both_piece (token_piece (is sort (import_word ∷ [])) (example import_word) import_is)
    (both_piece (token_piece (is_named (codes "org")) (made Ident (codes "org")) org_is)
    (both_piece (token_piece (is sort (dot ∷ [])) (example dot) dot_is)
    (both_piece (token_piece (is_named (codes "sireum")) (made Ident (codes "sireum")) sireum_is)
    (both_piece (token_piece (is sort (dot ∷ [])) (example dot) dot_is)
    (token_piece (is sort (underscore ∷ [])) (example underscore) underscore_is)
    (ends_here _)) (ends_here _)) (ends_here _)) (ends_here _)) (ends_here _)

library_whole : (i o d s e u : Spelled) {ts : List Spelled} → ts ≡ i ∷ o ∷ d ∷ s ∷ e ∷ u ∷ [] → Some (join i.span u.span) ≡ whole ts
unfolding cover
library_whole i o d s e u are = sym (ap whole are)

library_seen : (b : Bound) → Seen SpellsLibrary library_value (spells (limit_of b) Library)
library_seen b = record { to = to; back = back }
  where
    to : (v : LibraryParts) (ts : List Spelled) → SpellsLibrary v ts → spells (limit_of b) Library (library_value v) ts
    to (i, (o, (d, (s, (e, u))))) ts (a1, b1, e1, (f1, h1), (a2, b2, e2, (f2, h2), (a3, b3, e3, (f3, h3), (a4, b4, e4, (f4, h4), (a5, b5, e5, (f5, h5), (f6, h6)))))) =
        let last : b4 ≡ e ∷ u ∷ [] = one_before e5 f5 ∙ ap (λ w. e ∷ w) f6 in
        let later : b2 ≡ d ∷ s ∷ e ∷ u ∷ [] = one_before e3 f3 ∙ ap (λ w. d ∷ w) (one_before e4 f4 ∙ ap (λ w. s ∷ w) last) in
        let are : ts ≡ i ∷ o ∷ d ∷ s ∷ e ∷ u ∷ [] = one_before e1 f1 ∙ ap (λ w. i ∷ w) (one_before e2 f2 ∙ ap (λ w. o ∷ w) later) in
        (library_all i o d s e u h1 (named_to (codes "org") o h2) h3 (named_to (codes "sireum") s h4) h5 h6 are, library_whole i o d s e u are)

    back : (x : Covered (Unit {0})) (ts : List Spelled) → spells (limit_of b) Library x ts → (v : LibraryParts) × (library_value v ≡ x) × SpellsLibrary v ts
    back (x, span) ts (library_all i o d s e u h1 h2 h3 h4 h5 h6 are, f) = (
      (i, (o, (d, (s, (e, u))))),
      covered x (library_whole i o d s e u are) f,
      (
        i ∷ [],
        o ∷ d ∷ s ∷ e ∷ u ∷ [],
        are,
        (refl, h1),
        (
          o ∷ [],
          d ∷ s ∷ e ∷ u ∷ [],
          refl,
          (refl, named_back (codes "org") o h2),
          (d ∷ [], s ∷ e ∷ u ∷ [], refl, (refl, h3), (s ∷ [], e ∷ u ∷ [], refl, (refl, named_back (codes "sireum") s h4), (e ∷ [], u ∷ [], refl, (refl, h5), (refl, h6)))),
        ),
      ),
    )

-- what is read in its own way, with its tests
piece : (b : Bound) (n : Name) → own_at n ≡ true → (size : ℕ) → Piece (spells (limit_of b) n) (by_hand_at (limit_of b) n) (marks_of sort (sets_at n)) size
piece b Type_term o size = seen_piece (type_seen b) (phrase_piece b A_type (open_is b) size)
piece Limited Expression o size = seen_piece (expr_seen Limited) (phrase_piece Limited An_expression refl size)
piece Unlimited Expression o size = seen_piece (expr_seen Unlimited) (phrase_piece Unlimited An_expression refl size)
piece b Block o size = seen_piece (block_seen b) (phrase_piece b A_block refl size)
piece b Library o size = seen_piece (library_seen b) (tokens_piece size)
piece b other o size = absurd cc

-- so it obeys the law, and its words and how it begins are known
pub own : (b : Bound) (n : Name) → grammar.valid n ≡ true → grammar.own n ≡ true → Own sort example grammar T_of room tree (spells (limit_of b)) (by_hand (limit_of b)) n
own b n v o = record {
  word = λ less. (piece b n o 0).shape.word;
  shape = λ w less. (piece b n o 0).shape;
  law = λ s size first later f l. (piece b n o (suc size)).law;
}
