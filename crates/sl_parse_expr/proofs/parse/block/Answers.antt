use Rattle.std.proofs.Common.{◌≡◌, ℕ, List, [], refl}
use Rattle.std.specs.Prelude.{Some}
use Rattle.sl_grammar.specs.Law.{found_as}
use Rattle.sl_tree.specs.Sorts.{Spelled}
use Rattle.sl_tree.specs.WellShaped.{IsBlock}
use Rattle.sl_parse_expr.specs.Names.{Levels, Block}
use Rattle.sl_parse_expr.specs.Grammar.{read}
use Rattle.sl_parse_expr.specs.Told.{block_view}
use Rattle.sl_parse_expr.specs.Answers.{room_of}
use Rattle.sl_parse_expr.proofs.Answering.{ReadsWithin, parsed_alone, stopped, stop_after}
use Rattle.sl_parse_expr.proofs.Phrases.{bare, block_any, block_within, block_goes}
use Rattle.sl_parse_expr.proofs.parse.block.Goals as goal

-- what the reader within the room found
within : (r : Levels) (depth : ℕ) → r ≡ Some (room_of depth) → (ts : List Spelled) → ReadsWithin IsBlock bare (room_of depth) ts (found_as block_view (read r Block ts))
within r depth e ts = rw e (block_within (room_of depth) ts)

pub free_block-requires-clause-ordered : goal.free_block-requires-clause-ordered
free_block-requires-clause-ordered c =
    stop_after IsBlock bare c.args.file _ _ _ c.args.depth _ (within _ c.args.depth c.room_at.ensures _) _ _ (rw c.in-Err-At.field-0-is at c.in-Err-At.ensures.told) c.min-last.ensures c.requires.in_bounds

pub returns-in-Ok : goal.returns-in-Ok
returns-in-Ok c =
    parsed_alone IsBlock bare c.args.file _ _ _ c.args.depth [] block_goes _ (within _ c.args.depth c.room_at.ensures _) (c.in-Ok.of, (c.in-Ok.field-0-1, c.in-Ok.field-0-2)) c.in-Ok.next c.in-Ok.ensures.told
    c.requires.in_bounds c.in-Ok.ensures.lies.1 refl

pub returns-in_ok-went-in-Err-At : goal.returns-in_ok-went-in-Err-At
returns-in_ok-went-in-Err-At c =
    rw c.refused.ensures
    (stopped IsBlock bare _ _ _ _ _ _ (within _ c.args.depth c.room_at.ensures _) _ _ (rw c.in-Err-At.field-0-is at c.in-Err-At.ensures.told) c.min-last.ensures c.requires.in_bounds _ (block_any _) _ c.in_ok-went-in-Err-At.ensures)
