use Rattle.std.proofs.Common.{map, sym, ap, ◌∙◌}
use Rattle.sl_tree.specs.declared.tree.Stmt.{out-Stmt}
use Rattle.sl_plain.specs.Reading.{line_at, atom_of, form_of, block_of, does, until, named, counting, read_of}
use Rattle.sl_plain.proofs.StatementForms.{for_read}
use Rattle.sl_plain.proofs.reading.statements.+read.Goals as goal

pub read_of-returns-in_ok-read-in-For : goal.read_of-returns-in_ok-read-in-For
read_of-returns-in_ok-read-in-For t c =
    let feeds = c.args.feeds.now in
    let tree = c.args.tree.now in
    let first = atom_of (form_of feeds c.in-For.first) in
    let end = atom_of (form_of feeds c.in-For.end) in
    let line = line_at feeds (out-Stmt tree).span.from in
    let name = c.in-For.name
    in c.in_ok-read-in-For.ensures
    ∙ ap (λ block. does (until c.in-For.to (named name (counting name first end block line)))) (c.in_ok-stmts-in-For.ensures ∙ ap (λ stmts. block_of (map (read_of feeds) stmts)) c.as_slice-in-For.ensures)
    ∙ sym (for_read feeds tree name c.in-For.first c.in-For.to c.in-For.end c.in-For.stmts c.in-For.is)
