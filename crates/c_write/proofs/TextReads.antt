-- The text that the writer gives a well-formed tree is a text of that tree, with the lines on which its functions stand.
use Rattle.std.proofs.Common.{◌++◌, append_assoc, sym, ap, subst, codes}
use Rattle.c_tree.specs.declared.tree.CFile.{CFile}
use Rattle.c_tree.specs.Flat.{cflat}
use Rattle.c_tree.specs.Text.{prelude, postlude, first_line, Spelled, CText}
use Rattle.c_tree.specs.WellFormed.{IsWellFormed}
use Rattle.c_write.specs.Layout.{first_place, laid, text_of}
use Rattle.c_write.specs.Lined.{first_spot, lined}
use Rattle.c_write.proofs.Lines.{cflat_lined, well_formed_lined}
use Rattle.c_write.proofs.Spelling.{laid_spelled}
use Rattle.c_write.proofs.Tokens.{flat_tokens}

-- the text of a well-formed tree reads as the tree with its lines
pub text_reads : (file : CFile) → IsWellFormed file → CText (text_of file) (lined file)
unfolding text_of
text_reads file is =
    let middle = laid first_place (cflat file) ++ codes "\n"
    in record {
      well_formed = well_formed_lined file is;
      middle = middle;
      whole = ap (λ bytes. bytes ++ postlude) (append_assoc prelude (laid first_place (cflat file)) (codes "\n"));
      spelled = subst (λ tokens. Spelled first_line tokens middle) (sym (cflat_lined file)) (laid_spelled first_spot (cflat file) (flat_tokens file is));
    }
