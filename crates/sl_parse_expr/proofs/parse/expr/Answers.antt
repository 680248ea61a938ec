use Rattle.std.proofs.Common.{◌≡◌, ℕ, List, true, false, sym, ap, ◌∙◌}
use Rattle.std.specs.Prelude.{Some}
use Rattle.sl_tree.specs.Sorts.{Spelled}
use Rattle.sl_parse_expr.specs.Names.{Levels, Expression, open_to}
use Rattle.sl_parse_expr.specs.Grammar.{read, after_kinds}
use Rattle.sl_parse_expr.specs.Answers.{AnyExpr, room_of}
use Rattle.sl_parse_expr.proofs.Answering.{ReadsWithin, parsed_alone, parsed_again, too_deep, stopped, stop_after, closed}
use Rattle.sl_parse_expr.proofs.Phrases.{bare, expr_any, expr_within, expr_goes, expr_shut}
use Rattle.sl_parse_expr.proofs.parse.expr.Goals as goal
use Rattle.sl_parse_expr.proofs.parse.expr.Goals.{then-goes_on+in_ok-went-in-Ok+else-went-next, else-goes_on}

-- what the reader within the room found
within : (r : Levels) (depth : ℕ) (b : _) → r ≡ Some (room_of depth) → b ≡ open_to r → b ≡ true → (ts : List Spelled) → ReadsWithin AnyExpr bare (room_of depth) ts (read r Expression ts)
within r depth b e h o ts = rw e (expr_within (room_of depth) (sym (ap open_to e) ∙ (sym h ∙ o)) ts)

pub returns-then-not-open_to : goal.returns-then-not-open_to
returns-then-not-open_to c =
    let o : open_to (Some (room_of c.args.depth)) ≡ false = sym (ap open_to c.room_at-room.ensures) ∙ (sym c.open_to.ensures ∙ c.if-not-open_to.true) in
    rw c.refused.ensures (closed AnyExpr bare _ _ _ _ _ (expr_shut (room_of c.args.depth) o) c.requires.in_bounds _ (expr_any _) _ c.in_ok-went.ensures)

pub returns-then-went-next : goal.returns-then-went-next
returns-then-went-next c =
    let r = within _ c.args.depth _ c.room_at-room.ensures c.open_to.ensures c.if-not-open_to.false _ in
    rw c.refused-then-went-next.ensures
    (too_deep AnyExpr bare _ _ _ _ _ _ r (c.in-Ok.of, c.in-Ok.field-0-1) c.in-Ok.next c.in-Ok.ensures.told c.requires.in_bounds c.in-Ok.ensures.lies.1 _ (expr_any _) _ c.in_ok-went-in-Ok.ensures c.if-went-next.true)

pub free_expr-requires-in-Err-At-clause-ordered : goal.free_expr-requires-in-Err-At-clause-ordered
free_expr-requires-in-Err-At-clause-ordered c =
    let r = within _ c.args.depth _ c.room_at-room.ensures c.open_to.ensures c.if-not-open_to.false _ in
    stop_after AnyExpr bare c.args.file _ _ _ c.args.depth _ r _ _ (rw c.in-Err-At.field-0-is at c.in-Err-At.ensures.told) c.min-last.ensures c.requires.in_bounds

pub returns-after-goes_on : goal.returns-after-goes_on
returns-after-goes_on c =
    let r = within _ c.args.depth _ c.room_at-room.ensures c.open_to.ensures c.if-not-open_to.false _ in
    elim c.if-goes_on.branch [
      | then-goes_on+in_ok-went-in-Ok+else-went-next w ↦
          parsed_again AnyExpr bare c.args.file _ _ _ c.args.depth _ r (c.in-Ok.of, c.in-Ok.field-0-1) c.in-Ok.next c.in-Ok.ensures.told c.requires.in_bounds c.in-Ok.ensures.lies.1 _ (expr_any _) _ w.in_ok-went-in-Ok.ensures w.if-went-next.false
      | else-goes_on w ↦
          parsed_alone AnyExpr bare c.args.file _ _ _ c.args.depth after_kinds expr_goes _ r (c.in-Ok.of, c.in-Ok.field-0-1) c.in-Ok.next c.in-Ok.ensures.told c.requires.in_bounds c.in-Ok.ensures.lies.1 (sym c.goes_on.ensures ∙ w.if-goes_on.false)
    ]

pub returns-in_ok-went-in-Err-At : goal.returns-in_ok-went-in-Err-At
returns-in_ok-went-in-Err-At c =
    let r = within _ c.args.depth _ c.room_at-room.ensures c.open_to.ensures c.if-not-open_to.false _ in
    rw c.refused-in-Err-At.ensures
    (stopped AnyExpr bare _ _ _ _ _ _ r _ _ (rw c.in-Err-At.field-0-is at c.in-Err-At.ensures.told) c.min-last.ensures c.requires.in_bounds _ (expr_any _) _ c.in_ok-went-in-Err-At.ensures)
