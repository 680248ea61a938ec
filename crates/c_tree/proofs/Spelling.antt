-- Which bytes are the text of some tokens, by examples.
use Rattle.std.proofs.Common.{◌≡◌, ◌≢◌, ◌⊎◌, ℕ, ◌+◌, ◌≤◌, List, [], ◌∷◌, ◌++◌, Bool, true, false, Some, None, refl, sym, subst, ap, ◌∙◌, inl, inr, arith, append_assoc, map, All, Contains, codes, bytes_eq}
use Rattle.std.specs.Prelude.{◌==◌, not, ◌&&◌, ◌||◌}
use Rattle.std.specs.Char.{is_ascii_digit}
use Rattle.std.specs.Fmt.{digits}
use Rattle.std.specs.List.{list_any, list_all}
use Rattle.std.proofs.lemmas.Bool.{and_parts}
use Rattle.std.proofs.lemmas.Bool.Decides.{Decides-eqb, Decides-by_and}
use Rattle.std.proofs.lemmas.List.Elements.{All-nil, All-cons, All-head, All-contains, Contains-append_right}
use Rattle.std.proofs.lemmas.List.Folds.{list_any_at, Any-from_list_any}
use Rattle.std.proofs.lemmas.Slice.Eq.{bytes_eq-Decides}
use Rattle.c_tree.specs.declared.tree.CArg.TheVariants.{Value}
use Rattle.c_tree.specs.declared.tree.CFile.{CFile}
use Rattle.c_tree.specs.declared.tree.CFun.{CFun}
use Rattle.c_tree.specs.declared.tree.CStmt.{CStmt}
use Rattle.c_tree.specs.declared.tree.CStmt.TheVariants.{Call, If}
use Rattle.c_tree.specs.declared.tree.CExpr.{CExpr}
use Rattle.c_tree.specs.declared.tree.CExpr.TheVariants.{Negate}
use Rattle.c_tree.specs.declared.tree.CType.TheVariants.{Void}
use Rattle.c_tree.specs.Words.{IsIdentifierByte, IsDigit, IsIdentifier, IsNumber, IsToken, marks}
use Rattle.c_tree.specs.Parts.{Constant, leaves, Tests, Calls, actions}
use Rattle.c_tree.specs.Flat.{lexeme, lexemes, cflat}
use Rattle.c_tree.specs.WellFormed.{IsLeaf, IsExpr, IsAction, IsStmt, IsFunction, IsWellFormed, stmt_depth}
use Rattle.c_tree.specs.Text.{prelude, postlude, first_line, IsComment, IsBlank, line_feeds, IsLongest, Spelled, CText}
use Rattle.c_tree.proofs.Variants.{leaves_are, actions_are, flat_expressions_are, flat_statements_are, expression_depths_are, statement_depths_are}
use Rattle.c_tree.proofs.Forms.{constant_fits}
use Rattle.c_tree.proofs.Names.{in_word, in_word_decides, is_word, word_is, name_is}
use Rattle.c_tree.proofs.Lists.{first_in, not_empty}
use Rattle.c_tree.proofs.Small.{signed, function_with}

-- the tokens behind the prelude begin on the line that follows its line feeds
pub prelude_has_six_lines : first_line ≡ line_feeds prelude + 1
unfolding prelude
prelude_has_six_lines = refl

-- Comments -----------------------------------------------------------------------------------------------------------

-- `/**/` is a comment
pub least_comment : IsComment (codes "/**/")
least_comment = ([], refl, λ front back inside. not_empty 42 front (47 ∷ back) (inside ∙ append_assoc front (codes "*/") back))

-- a line feed ends no comment
inside_feed : (front back : List ℕ) → codes "\n" ≢ front ++ 42 ∷ 47 ∷ back
inside_feed [] back same = cc
inside_feed (byte ∷ front) back same = not_empty 42 front (47 ∷ back) (let rest : [] ≡ front ++ 42 ∷ 47 ∷ back = cc in rest)

-- so it is the inside of a comment
pub feed_comment : IsComment (codes "/*\n*/")
feed_comment = (codes "\n", refl, λ front back inside. inside_feed front back (inside ∙ append_assoc front (codes "*/") back))

-- the star of `/*/` stands once
inside_half : (inner : List ℕ) → codes "/" ≢ inner ++ codes "*/"
inside_half [] same = cc
inside_half (byte ∷ inner) same = not_empty 42 inner (47 ∷ []) (let rest : [] ≡ inner ++ 42 ∷ 47 ∷ [] = cc in rest)

-- so `/*/` isn't one
pub half_comment : ¬ IsComment (codes "/*/")
half_comment comment = inside_half comment.0 (let same : codes "/" ≡ comment.0 ++ codes "*/" = let whole = comment.1 in cc in same)

-- `/**/*/` goes on behind its end
inside_twice : (inner : List ℕ) → codes "*/*/" ≡ inner ++ codes "*/" → inner ≡ codes "*/"
inside_twice [] same = cc
inside_twice (a ∷ []) same = cc
inside_twice (a ∷ b ∷ []) same = cc
inside_twice (a ∷ b ∷ c ∷ []) same = cc
inside_twice (a ∷ b ∷ c ∷ d ∷ inner) same = absurd (not_empty 42 inner (47 ∷ []) (let rest : [] ≡ inner ++ 42 ∷ 47 ∷ [] = cc in rest))

-- so it would have an end inside
pub ended_twice : ¬ IsComment (codes "/**/*/")
ended_twice comment = comment.2 [] [] (inside_twice comment.0 (let same : codes "*/*/" ≡ comment.0 ++ codes "*/" = let whole = comment.1 in cc in same))

-- Words --------------------------------------------------------------------------------------------------------------

-- whether a spelling is a number
abbrev is_number : List ℕ → Bool
is_number [] = false
is_number (byte ∷ bytes) = list_all is_ascii_digit (byte ∷ bytes)

-- where the test passes, it is one
number_is : (spelling : List ℕ) → is_number spelling ≡ true → IsNumber spelling
number_is [] passes = cc
number_is (byte ∷ bytes) passes = record {
  digits = (Decides-by_and is_ascii_digit IsDigit (list_all is_ascii_digit) (λ _. ((λ is. is), (λ is. is))) refl (λ _ _. refl) (byte ∷ bytes)).0 passes;
  some = λ none. cc;
}

-- whether a spelling begins with a byte of words
abbrev begins_in_word : List ℕ → Bool
begins_in_word [] = false
begins_in_word (byte ∷ bytes) = in_word byte

-- whether no word and no number goes on with these bytes
abbrev ends_words : List ℕ → Bool
ends_words [] = true
ends_words (byte ∷ bytes) = not (in_word byte) && not (is_ascii_digit byte)

-- a test that fails doesn't pass
fails : (test : Bool) → not test ≡ true → test ≢ true
fails test not_so so = let same : false ≡ true = sym (ap not so) ∙ not_so in cc

-- no longer token begins with a word or a number that ends there
no_longer_word : (byte : ℕ) (bytes behind : List ℕ) → in_word byte ≡ true → ends_words behind ≡ true → (more rest : List ℕ) → behind ≡ more ++ rest → more ≢ [] → ¬ IsToken (byte ∷ (bytes ++ more))
no_longer_word byte bytes behind starts ends [] rest these some token = some refl
no_longer_word byte bytes behind starts ends (next ∷ more) rest these some token =
    let parts = and_parts (not (in_word next)) (not (is_ascii_digit next)) (sym (ap ends_words these) ∙ ends) in
    let among : Contains (byte ∷ (bytes ++ next ∷ more)) next = Contains-append_right (byte ∷ bytes) (next ∷ more) next (first_in next more) in
    go parts.0 parts.1 among token
  where
    -- whatever it is
    go : not (in_word next) ≡ true → not (is_ascii_digit next) ≡ true → Contains (byte ∷ (bytes ++ next ∷ more)) next → ¬ IsToken (byte ∷ (bytes ++ next ∷ more))
    go no_letter no_digit among (inl is) = fails (in_word next) no_letter ((in_word_decides next).1 (All-contains IsIdentifierByte (byte ∷ (bytes ++ next ∷ more)) next is.bytes among))
    go no_letter no_digit among (inr (inl is)) = fails (is_ascii_digit next) no_digit (All-contains IsDigit (byte ∷ (bytes ++ next ∷ more)) next is.digits among)
    go no_letter no_digit among (inr (inr is)) =
        let passes : list_any begins_in_word marks ≡ true = list_any_at begins_in_word marks is.0 (byte ∷ (bytes ++ next ∷ more)) is.1 (ap begins_in_word is.2 ∙ starts) in cc

-- a word or a number that ends there is the longest token
word_is_longest : (byte : ℕ) (bytes behind : List ℕ) → IsToken (byte ∷ bytes) → in_word byte ≡ true → ends_words behind ≡ true → IsLongest (byte ∷ bytes) behind
word_is_longest byte bytes behind token starts ends = record {
  token = token;
  longest = no_longer_word byte bytes behind starts ends;
  no_comment = λ rest same. let slash : byte ≡ 47 = cc in let passes : in_word 47 ≡ true = sym (ap in_word slash) ∙ starts in cc;
}

-- Marks --------------------------------------------------------------------------------------------------------------

-- whether a spelling begins with this byte, and goes on
abbrev is_longer : ℕ → List ℕ → Bool
is_longer mark [] = false
is_longer mark (byte ∷ []) = false
is_longer mark (byte ∷ next ∷ bytes) = byte == mark

-- whether a mark begins no word, no number, no longer mark and no comment
abbrev begins_nothing : ℕ → Bool
begins_nothing mark = (not (in_word mark) && not (is_ascii_digit mark)) && (not (list_any (is_longer mark) marks) && not (mark == 47))

-- whether a spelling is such a mark
abbrev is_lone_mark : List ℕ → Bool
is_lone_mark [] = false
is_lone_mark (mark ∷ []) = list_any (bytes_eq (mark ∷ [])) marks && begins_nothing mark
is_lone_mark (mark ∷ next ∷ bytes) = false

-- a mark that is in the list is one
mark_is : (spelling : List ℕ) → list_any (bytes_eq spelling) marks ≡ true → Contains marks spelling
mark_is spelling passes =
    let any = Any-from_list_any (bytes_eq spelling) marks passes in
    subst (Contains marks) (sym ((bytes_eq-Decides spelling any.1).0 any.4)) (any.0, any.2, any.3)

-- no longer token begins with such a mark
no_longer_mark : (mark : ℕ) (behind : List ℕ) → begins_nothing mark ≡ true → (more rest : List ℕ) → behind ≡ more ++ rest → more ≢ [] → ¬ IsToken (mark ∷ more)
no_longer_mark mark behind nothing [] rest these some token = some refl
no_longer_mark mark behind nothing (next ∷ more) rest these some (inl is) =
    let parts = and_parts (not (in_word mark) && not (is_ascii_digit mark)) (not (list_any (is_longer mark) marks) && not (mark == 47)) nothing in
    let alone = and_parts (not (in_word mark)) (not (is_ascii_digit mark)) parts.0 in
    fails (in_word mark) alone.0 ((in_word_decides mark).1 (All-head IsIdentifierByte mark (next ∷ more) is.bytes))
no_longer_mark mark behind nothing (next ∷ more) rest these some (inr (inl is)) =
    let parts = and_parts (not (in_word mark) && not (is_ascii_digit mark)) (not (list_any (is_longer mark) marks) && not (mark == 47)) nothing in
    let alone = and_parts (not (in_word mark)) (not (is_ascii_digit mark)) parts.0 in
    fails (is_ascii_digit mark) alone.1 (All-head IsDigit mark (next ∷ more) is.digits)
no_longer_mark mark behind nothing (next ∷ more) rest these some (inr (inr is)) =
    let parts = and_parts (not (in_word mark) && not (is_ascii_digit mark)) (not (list_any (is_longer mark) marks) && not (mark == 47)) nothing in
    let alone = and_parts (not (list_any (is_longer mark) marks)) (not (mark == 47)) parts.1 in
    fails (list_any (is_longer mark) marks) alone.0 (list_any_at (is_longer mark) marks is.0 (mark ∷ next ∷ more) is.1 (ap (is_longer mark) is.2 ∙ (Decides-eqb mark mark).1 refl))

-- so it is the longest token wherever it stands
mark_is_longest : (mark : ℕ) (behind : List ℕ) → is_lone_mark (mark ∷ []) ≡ true → IsLongest (mark ∷ []) behind
mark_is_longest mark behind lone =
    let both = and_parts (list_any (bytes_eq (mark ∷ [])) marks) (begins_nothing mark) lone in
    let parts = and_parts (not (in_word mark) && not (is_ascii_digit mark)) (not (list_any (is_longer mark) marks) && not (mark == 47)) both.1 in
    let alone = and_parts (not (list_any (is_longer mark) marks)) (not (mark == 47)) parts.1 in
    record {
      token = inr (inr (mark_is (mark ∷ []) both.0));
      longest = no_longer_mark mark behind both.1;
      no_comment = λ rest same. fails (mark == 47) alone.1 ((Decides-eqb mark 47).1 (let slash : mark ≡ 47 = cc in slash));
    }

-- Texts --------------------------------------------------------------------------------------------------------------

-- a token as it stands in a text, behind a space or not
data Piece : Type 0 where
  Glued : (spelling : List ℕ) → Piece
  Spaced : (spelling : List ℕ) → Piece

-- its spelling
abbrev spelling_of : Piece → List ℕ
spelling_of (Glued spelling) = spelling
spelling_of (Spaced spelling) = spelling

-- the bytes of some
abbrev text_of : List Piece → List ℕ
text_of [] = []
text_of (Glued spelling ∷ pieces) = spelling ++ text_of pieces
text_of (Spaced spelling ∷ pieces) = 32 ∷ (spelling ++ text_of pieces)

-- whether a spelling is a token that ends where these bytes begin
abbrev stands : List ℕ → List ℕ → Bool
stands spelling behind = (ends_words behind && (is_word spelling || is_number spelling)) || is_lone_mark spelling

-- whether each of some pieces does
abbrev all_stand : List Piece → Bool
all_stand [] = true
all_stand (piece ∷ pieces) = stands (spelling_of piece) (text_of pieces) && all_stand pieces

-- one of two tests passes
one_passes : (a b : Bool) → (a || b) ≡ true → (a ≡ true) ⊎ (b ≡ true)
one_passes true b passes = inl refl
one_passes false b passes = inr passes

-- a number begins with a byte of words
digit_in_word : (byte : ℕ) → is_ascii_digit byte ≡ true → in_word byte ≡ true
digit_in_word byte digit = rw digit refl

-- it is the longest token there
longest_of : (spelling behind : List ℕ) → stands spelling behind ≡ true → IsLongest spelling behind
longest_of spelling behind so = by spelling (one_passes (ends_words behind && (is_word spelling || is_number spelling)) (is_lone_mark spelling) so)
  where
    -- as a word or a number
    as_word : (spelling : List ℕ) → ends_words behind ≡ true → (is_word spelling ≡ true) ⊎ (is_number spelling ≡ true) → IsLongest spelling behind
    as_word [] ends (inl word) = cc
    as_word [] ends (inr number) = cc
    as_word (byte ∷ bytes) ends (inl word) =
        let parts = and_parts (not (is_ascii_digit byte)) (list_all in_word (byte ∷ bytes)) word in
        let starts = and_parts (in_word byte) (list_all in_word bytes) parts.1 in
        word_is_longest byte bytes behind (inl (word_is (byte ∷ bytes) word)) starts.0 ends
    as_word (byte ∷ bytes) ends (inr number) =
        let starts = and_parts (is_ascii_digit byte) (list_all is_ascii_digit bytes) number in
        word_is_longest byte bytes behind (inr (inl (number_is (byte ∷ bytes) number))) (digit_in_word byte starts.0) ends

    -- as the test that passes says
    by : (spelling : List ℕ) → ((ends_words behind && (is_word spelling || is_number spelling)) ≡ true) ⊎ (is_lone_mark spelling ≡ true) → IsLongest spelling behind
    by spelling (inl word) =
        let parts = and_parts (ends_words behind) (is_word spelling || is_number spelling) word in
        as_word spelling parts.0 (one_passes (is_word spelling) (is_number spelling) parts.1)
    by [] (inr mark) = cc
    by (mark ∷ []) (inr lone) = mark_is_longest mark behind lone
    by (mark ∷ next ∷ bytes) (inr lone) = cc

-- pieces that stand are a text of their tokens
pieces_spelled : (line : ℕ) (pieces : List Piece) → all_stand pieces ≡ true → Spelled line (lexemes (map spelling_of pieces)) (text_of pieces)
pieces_spelled line [] so = ([], All-nil IsBlank, refl)
pieces_spelled line (Glued spelling ∷ pieces) so =
    let parts = and_parts (stands spelling (text_of pieces)) (all_stand pieces) so in
    let same : line ≡ line + 0 = omega arith in (
      [],
      text_of pieces,
      ([], All-nil IsBlank, refl),
      refl,
      longest_of spelling (text_of pieces) parts.0,
      tt,
      subst (λ line. Spelled line (lexemes (map spelling_of pieces)) (text_of pieces)) same (pieces_spelled line pieces parts.1),
    )
pieces_spelled line (Spaced spelling ∷ pieces) so =
    let parts = and_parts (stands spelling (text_of pieces)) (all_stand pieces) so in
    let same : line ≡ line + 0 = omega arith in (
      codes " ",
      text_of pieces,
      (codes " " ∷ [], All-cons IsBlank (codes " ") [] (inl refl) (All-nil IsBlank), refl),
      refl,
      longest_of spelling (text_of pieces) parts.0,
      tt,
      subst (λ line. Spelled line (lexemes (map spelling_of pieces)) (text_of pieces)) same (pieces_spelled line pieces parts.1),
    )

-- The text of a tree --------------------------------------------------------------------------------------------------

-- the arguments `INT64_C(2)` and `(-INT64_C(3))`
abbrev two_arguments : List CExpr
two_arguments = signed 2 ∷ Negate (signed 3) ∷ []

-- `if (INT64_C(1)) { f(INT64_C(2), (-INT64_C(3))); }`
abbrev calling_if : CStmt
calling_if = If (signed 1) (Call None (codes "f") (Value (signed 2) ∷ Value (Negate (signed 3)) ∷ []) ∷ []) None

-- a function `g` with it, on line 7
abbrev written : CFun
written = record (function_with (codes "g") Void (calling_if ∷ [])) { line = 7 }

-- a file of this function
abbrev written_file : CFile
written_file = record { structs = []; globals = []; protos = []; functions = written ∷ [] }

-- its tokens behind the first, as they stand
abbrev pieces : List Piece
pieces =
    Spaced (codes "void") ∷ Spaced (codes "g") ∷ Glued (codes "(") ∷ Glued (codes "void") ∷ Glued (codes ")") ∷ Spaced (codes "{")
    ∷ Spaced (codes "if") ∷ Spaced (codes "(") ∷ Glued (codes "INT64_C") ∷ Glued (codes "(") ∷ Glued (codes "1") ∷ Glued (codes ")") ∷ Glued (codes ")") ∷ Spaced (codes "{")
    ∷ Spaced (codes "f") ∷ Glued (codes "(") ∷ Glued (codes "INT64_C") ∷ Glued (codes "(") ∷ Glued (codes "2") ∷ Glued (codes ")") ∷ Glued (codes ",")
    ∷ Spaced (codes "(") ∷ Glued (codes "-") ∷ Glued (codes "INT64_C") ∷ Glued (codes "(") ∷ Glued (codes "3") ∷ Glued (codes ")") ∷ Glued (codes ")")
    ∷ Glued (codes ")") ∷ Glued (codes ";") ∷ Spaced (codes "}") ∷ Spaced (codes "}")
    ∷ []

-- they are the tree's
tokens_of_written : cflat written_file ≡ record { spelling = codes "static"; line = Some 7 } ∷ lexemes (map spelling_of pieces)
unfolding cflat digits
tokens_of_written = simp (flat_statements_are, flat_expressions_are)

-- the two arguments have numbers of 64 bits
arguments_are : All IsExpr two_arguments
arguments_are =
    All-cons IsExpr (signed 2) (Negate (signed 3) ∷ []) (constant_fits true 2 (omega arith))
    (All-cons IsExpr (Negate (signed 3)) [] (subst (All IsLeaf) (sym negated_leaves) (All-cons IsLeaf (Constant true 3) [] (omega arith) (All-nil IsLeaf))) (All-nil IsExpr))
  where
    -- the second has one
    negated_leaves : leaves (Negate (signed 3)) ≡ Constant true 3 ∷ []
    negated_leaves = simp leaves_are

-- the statement is one that a text can have
statement_is : IsStmt calling_if
statement_is =
    subst (All IsAction) (sym its_actions)
    (All-cons IsAction (Tests (signed 1)) (Calls None (codes "f") two_arguments ∷ []) (constant_fits true 1 (omega arith))
    (All-cons IsAction (Calls None (codes "f") two_arguments) [] (tt, name_is (codes "f") refl refl, arguments_are) (All-nil IsAction)))
  where
    -- its actions
    its_actions : actions calling_if ≡ Tests (signed 1) ∷ Calls None (codes "f") two_arguments ∷ []
    its_actions = simp actions_are

-- and so is the tree
written_is : IsWellFormed written_file
written_is =
    let depth : stmt_depth calling_if ≡ 4 = simp (statement_depths_are, expression_depths_are) in
    record {
      structs = All-nil _;
      globals = All-nil _;
      protos = All-nil _;
      functions =
          All-cons IsFunction written []
          (record {
            head = record { name = name_is (codes "g") refl refl; result = inr refl; params = All-nil _ };
            vars = All-nil _;
            body = All-cons IsStmt calling_if [] statement_is (All-nil IsStmt);
          })
          (All-nil IsFunction);
      nesting =
          All-cons (λ function. All (λ stmt. stmt_depth stmt ≤ 1024) function.body) written [] (All-cons (λ stmt. stmt_depth stmt ≤ 1024) calling_if [] (omega arith) (All-nil _)) (All-nil _);
    }

-- so these bytes, between the first lines and the last one, are the text of the tree
pub text_of_tree : CText (prelude ++ codes "static void g(void) { if (INT64_C(1)) { f(INT64_C(2), (-INT64_C(3))); } }" ++ postlude) written_file
text_of_tree = record {
  well_formed = written_is;
  middle = codes "static" ++ text_of pieces;
  whole = refl;
  spelled =
      subst (λ tokens. Spelled 7 tokens (codes "static" ++ text_of pieces)) (sym tokens_of_written)
      ([], text_of pieces, ([], All-nil IsBlank, refl), refl, longest_of (codes "static") (text_of pieces) refl, refl, pieces_spelled 7 pieces refl);
}

-- Lines and other tokens ---------------------------------------------------------------------------------------------

-- `_` is an identifier
pub line_is : IsIdentifier (codes "_")
line_is = word_is (codes "_") refl

-- and `1` is none
pub one_is_none : ¬ IsIdentifier (codes "1")
one_is_none is = is.begins refl

-- `static` behind a comment with a line feed and a line feed, and `x;` on the next line: `static` stands on the ninth line, where
-- the first byte stands on the seventh, and `x` on the tenth
pub short_text : Spelled 7 (record { spelling = codes "static"; line = Some 9 } ∷ record { spelling = codes "x"; line = Some 10 } ∷ lexeme (codes ";") ∷ []) (codes "/*\n*/\nstatic\nx;")
short_text = (
  codes "/*\n*/\n",
  codes "\nx;",
  (codes "/*\n*/" ∷ codes "\n" ∷ [], All-cons IsBlank (codes "/*\n*/") (codes "\n" ∷ []) (inr (inr feed_comment)) (All-cons IsBlank (codes "\n") [] (inr (inl refl)) (All-nil IsBlank)), refl),
  refl,
  longest_of (codes "static") (codes "\nx;") refl,
  refl,
  (
    codes "\n",
    codes ";",
    (codes "\n" ∷ [], All-cons IsBlank (codes "\n") [] (inr (inl refl)) (All-nil IsBlank), refl),
    refl,
    longest_of (codes "x") (codes ";") refl,
    refl,
    (
      [],
      [],
      ([], All-nil IsBlank, refl),
      refl,
      longest_of (codes ";") [] refl,
      tt,
      ([], All-nil IsBlank, refl),
    ),
  ),
)

-- without a blank between them `static` and `x` are one word
pub not_apart : ¬ IsLongest (codes "static") (codes "x;")
not_apart longest = longest.longest (codes "x") (codes ";") refl (λ none. cc) (inl (word_is (codes "staticx") refl))

-- and where a token would begin a comment, it isn't there
pub no_slash : ¬ IsLongest (codes "/") (codes "* */")
no_slash longest = longest.no_comment (codes " */") refl
