use Rattle.std.proofs.Common.{◌≡◌, ◌∷◌, [], ◌++◌, ◌+◌, ◌<◌, length, suc, sym, ap, ◌∙◌, arith}
use Rattle.sl_grammar.specs.Phrase.{read_token}
use Rattle.sl_grammar.specs.Law.{found_as}
use Rattle.sl_grammar.specs.Grammar.{is}
use Rattle.sl_tree.specs.Sorts.{spelled, sort, comma, left_bracket, right_bracket}
use Rattle.sl_tree.specs.WellShaped.{type_term}
use Rattle.sl_parse_expr.specs.Names.{Type_term, open_to, types_form}
use Rattle.sl_parse_expr.specs.Grammar.{read}
use Rattle.sl_parse_expr.specs.Told.{behind, reads, path_form, path_view, types_view}
use Rattle.sl_parse_expr.proofs.Telling.{comes, comes_not, token_here, two_err, three_err, token_err_three, two_err_three}
use Rattle.sl_parse_expr.proofs.TypesRead.{type_halts, type_plain, type_shut, type_stops, type_applied, types_halts, types_first, types_begins, types_stops, types_goes, types_ends, types_unclosed}
use Rattle.sl_parse_expr.proofs.types.+types.Goals as goal
use Rattle.sl_parse_expr.proofs.types.+types.Goals.{type_term-then-peek-ne-LEFT_BRACKET-via-then-peek-ne-LEFT_BRACKET, type_term-then-peek-ne-LEFT_BRACKET-via-else-peek-ne-LEFT_BRACKET+then-not-fits}

pub type_term-returns-in_err-path-clause-told : goal.type_term-returns-in_err-path-clause-told
type_term-returns-in_err-path-clause-told t c =
    let bytes = c.args.bytes.now in
    let tokens = c.args.tokens.now in
    let ts = behind bytes tokens c.args.start in
    two_err bytes tokens (found_as path_view (reads path_form ts)) (read c.args.room Type_term ts) c.in_err-path.field-0.0 c.from_residual.result c.in_err-path.ensures.told c.from_residual.ensures.1
    (λ rest e. type_halts c.args.room c.requires.open ts rest e)

pub type_term-returns-then-peek-ne-LEFT_BRACKET-clause-told : goal.type_term-returns-then-peek-ne-LEFT_BRACKET-clause-told
unfolding type_term
type_term-returns-then-peek-ne-LEFT_BRACKET-clause-told t c =
    let ts = behind c.args.bytes.now c.args.tokens.now c.args.start in
    let rest = behind c.args.bytes.now c.args.tokens.now c.in_ok-path.at in
    let e = c.in_ok-path.ensures.told in
    rw (c.new.ensures) (elim c.then-peek-ne-LEFT_BRACKET.branch [
      | type_term-then-peek-ne-LEFT_BRACKET-via-then-peek-ne-LEFT_BRACKET w ↦ type_plain c.args.room c.requires.open ts rest c.in_ok-path.path c.in_ok-path.span e (comes_not left_bracket c.peek.result rest c.peek.ensures.sort w.if-peek-ne-LEFT_BRACKET.true)
      | type_term-then-peek-ne-LEFT_BRACKET-via-else-peek-ne-LEFT_BRACKET+then-not-fits w ↦ type_shut c.args.room c.requires.open ts rest c.in_ok-path.path c.in_ok-path.span e (sym w.fits.ensures ∙ w.if-not-fits.true)
    ])

pub type_term-types-requires : goal.type_term-types-requires
type_term-types-requires t c =
    let p = c.in_ok-path.ensures.lies in
    (omega arith, (omega arith, ap open_to c.deeper.ensures ∙ (sym c.fits.ensures ∙ c.if-not-fits.false)))

pub type_term-returns-in_err-args-clause-told : goal.type_term-returns-in_err-args-clause-told
type_term-returns-in_err-args-clause-told t c =
    let bytes = c.args.bytes.now in
    let tokens = c.args.tokens.now in
    let ts = behind bytes tokens c.args.start in
    let rest = behind bytes tokens c.in_ok-path.at in
    three_err bytes tokens (found_as types_view (reads (types_form c.deeper.result) rest)) (read c.args.room Type_term ts) c.in_err-args.field-0.0 c.from_residual-in_err-args.result
    c.in_err-args.ensures.told c.from_residual-in_err-args.ensures.1
    (λ left d. type_stops c.args.room c.requires.open ts rest left (c.in_ok-path.path, c.in_ok-path.span) c.in_ok-path.ensures.told
    (sym c.fits.ensures ∙ c.if-not-fits.false) (comes left_bracket c.peek.result rest c.peek.ensures.sort c.if-peek-ne-LEFT_BRACKET.false)
    (ap (λ r. found_as types_view (reads (types_form r) rest)) (sym c.deeper.ensures) ∙ d))

pub type_term-returns-clause-told : goal.type_term-returns-clause-told
unfolding type_term
type_term-returns-clause-told t c =
    let ts = behind c.args.bytes.now c.args.tokens.now c.args.start in
    let rest = behind c.args.bytes.now c.args.tokens.now c.in_ok-path.at in
    let left = behind c.args.bytes.now c.args.tokens.now c.in_ok-args.next in
    type_applied c.args.room c.requires.open ts rest left c.in_ok-path.path c.in_ok-path.span c.in_ok-args.close c.join-span.result c.in_ok-args.args c.in_ok-args.levels (c.in_ok-args.levels + 1)
    c.in_ok-path.ensures.told (sym c.fits.ensures ∙ c.if-not-fits.false) (comes left_bracket c.peek.result rest c.peek.ensures.sort c.if-peek-ne-LEFT_BRACKET.false)
    (ap (λ r. found_as types_view (reads (types_form r) rest)) (sym c.deeper.ensures) ∙ c.in_ok-args.ensures.told) c.join-span.ensures (omega arith)

pub types-returns-in_err-expect-clause-told : goal.types-returns-in_err-expect-clause-told
types-returns-in_err-expect-clause-told t c =
    let bytes = c.args.bytes.now in
    let tokens = c.args.tokens.now in
    let ts = behind bytes tokens c.args.start in
    token_err_three bytes tokens c.args.start (read_token (is sort (left_bracket ∷ [])) ts) (found_as types_view (reads (types_form c.args.room) ts)) c.in_err-expect.field-0.0 c.from_residual.result
    c.in_err-expect.ensures.told c.from_residual.ensures.1 (λ rest e. types_halts c.args.room ts rest e)

pub types-type_term-requires : goal.types-type_term-requires
types-type_term-requires t c = let p = c.in_ok-expect.ensures.in_bounds in (omega arith, (omega arith, c.requires.open))

pub types-returns-in_err-first-clause-told : goal.types-returns-in_err-first-clause-told
types-returns-in_err-first-clause-told t c =
    let bytes = c.args.bytes.now in
    let tokens = c.args.tokens.now in
    let ts = behind bytes tokens c.args.start in
    let more = behind bytes tokens (c.args.start + 1) in
    let n : suc c.args.start ≡ c.args.start + 1 = omega arith in
    let e = rw (n) at c.in_ok-expect.ensures.told in
    two_err_three bytes tokens (read c.args.room Type_term more) (found_as types_view (reads (types_form c.args.room) ts)) c.in_err-first.field-0.0 c.from_residual-in_err-first.result
    c.in_err-first.ensures.told c.from_residual-in_err-first.ensures.1 (λ rest d. types_first c.args.room ts more rest (spelled bytes c.in_ok-expect.field-0) e d)

pub types-listed-init : goal.types-listed-init
types-listed-init t c =
    let bytes = c.args.bytes.now in
    let tokens = c.args.tokens.now in
    let ts = behind bytes tokens c.args.start in
    let more = behind bytes tokens (c.args.start + 1) in
    let rest = behind bytes tokens c.in_ok-first.next in
    let n : suc c.args.start ≡ c.args.start + 1 = omega arith in
    let e = rw (n) at c.in_ok-expect.ensures.told in
    let l = c.in_ok-first.ensures.lies in
    record {
      begun = omega arith;
      in_bounds = omega arith;
      few = omega arith;
      grows = types_begins c.args.room ts more rest (spelled bytes c.in_ok-expect.field-0) c.in_ok-first.first c.in_ok-first.first_levels c.push.new.self e
          c.in_ok-first.ensures.told (c.in_ok-push.ensures.ok ∙ ap (λ all. all ++ c.in_ok-first.first ∷ []) c.new-all.ensures);
    }

pub types-type_term-requires-in-listed : goal.types-type_term-requires-in-listed
types-type_term-requires-in-listed t c = let p : c.listed.at < length c.args.tokens.now = c.peek.ensures.present (omega arith) in let i = c.listed.invariant.begun in (omega arith, (omega arith, c.requires.open))

pub types-returns-in_err-one-clause-told : goal.types-returns-in_err-one-clause-told
types-returns-in_err-one-clause-told t c =
    let bytes = c.args.bytes.now in
    let tokens = c.args.tokens.now in
    let ts = behind bytes tokens c.listed.at in
    let more = behind bytes tokens (c.listed.at + 1) in
    let h = comes comma c.peek.result ts c.peek.ensures.sort c.listed-test.true in
    let d = token_here bytes tokens c.listed.at (c.listed.at + 1) (comma ∷ []) (omega arith) (c.peek.ensures.present (omega arith)) h in
    two_err_three bytes tokens (read c.args.room Type_term more) (found_as types_view (reads (types_form c.args.room) (behind bytes tokens c.args.start))) c.in_err-one.field-0.0 c.from_residual-in_err-one.result
    c.in_err-one.ensures.told c.from_residual-in_err-one.ensures.1 (λ rest e. c.listed.invariant.grows ∙ types_stops c.args.room (c.listed.all, c.listed.levels) ts more rest d.0 h d.1 e)

pub types-listed-preserved : goal.types-listed-preserved
types-listed-preserved t c =
    let bytes = c.args.bytes.now in
    let tokens = c.args.tokens.now in
    let ts = behind bytes tokens c.listed.at in
    let more = behind bytes tokens (c.listed.at + 1) in
    let rest = behind bytes tokens c.in_ok-one.next in
    let h = comes comma c.peek.result ts c.peek.ensures.sort c.listed-test.true in
    let d = token_here bytes tokens c.listed.at (c.listed.at + 1) (comma ∷ []) (omega arith) (c.peek.ensures.present (omega arith)) h in
    let l = c.in_ok-one.ensures.lies in
    let m = c.max-levels.ensures in
    let p = c.in_ok-push-2.ensures.ok in
    record {
      begun = omega arith;
      in_bounds = omega arith;
      few = omega arith;
      grows = c.listed.invariant.grows ∙ types_goes c.args.room c.requires.open (c.listed.all, c.listed.levels) ts more rest d.0 c.in_ok-one.one c.in_ok-one.more c.push-in-listed.new.self
          c.max-levels.result h d.1 c.in_ok-one.ensures.told p m;
    }

pub types-returns-in_err-close-clause-told : goal.types-returns-in_err-close-clause-told
types-returns-in_err-close-clause-told t c =
    let bytes = c.args.bytes.now in
    let tokens = c.args.tokens.now in
    let ts = behind bytes tokens c.listed.at in
    let h = comes_not comma c.peek.result ts c.peek.ensures.sort c.listed-test.false in
    token_err_three bytes tokens c.listed.at (read_token (is sort (right_bracket ∷ [])) ts) (found_as types_view (reads (types_form c.args.room) (behind bytes tokens c.args.start))) c.in_err-close.field-0.0
    c.from_residual-in_err-close.result c.in_err-close.ensures.told c.from_residual-in_err-close.ensures.1
    (λ rest e. c.listed.invariant.grows ∙ types_unclosed c.args.room (c.listed.all, c.listed.levels) ts rest h e)

pub types-returns-clause-told : goal.types-returns-clause-told
unfolding spelled
types-returns-clause-told t c =
    let bytes = c.args.bytes.now in
    let tokens = c.args.tokens.now in
    let ts = behind bytes tokens c.listed.at in
    let h = comes_not comma c.peek.result ts c.peek.ensures.sort c.listed-test.false in
    let n : suc c.listed.at ≡ c.listed.at + 1 = omega arith in
    let e = rw (n) at c.in_ok-close.ensures.told in
    c.listed.invariant.grows ∙ types_ends c.args.room (c.listed.all, c.listed.levels) ts (behind bytes tokens (c.listed.at + 1)) (spelled bytes c.in_ok-close.close) h e

pub types-returns-clause-lies : goal.types-returns-clause-lies
types-returns-clause-lies t c = let i = c.in_ok-close.ensures.in_bounds in (omega arith, omega arith, omega arith)
