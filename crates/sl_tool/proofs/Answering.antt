-- The answer to words over what a folder holds, case by case.
use Rattle.std.proofs.Common.{◌≡◌, ℕ, List, Some, None, ap, ◌∙◌}
use Rattle.std.specs.Prelude.{Ok, Err}
use Rattle.sl_outside.specs.Folder.{Contents}
use Rattle.sl_tool.specs.declared.status.Status.TheVariants as status
use Rattle.sl_text.specs.declared.fault.Broken.{Broken}
use Rattle.sl_tree.specs.declared.tree.File.{File}
use Rattle.sl_plain.specs.declared.program.Plain.{Plain}
use Rattle.sl_tool.specs.SourceFiles.{SourceFile, Verdict, Breaks, Trees, sources_of, program_of}
use Rattle.sl_words.specs.Words.{Command, files_of}
use Rattle.sl_words.specs.WordsReading.{command_of}
use Rattle.sl_tool.specs.Texts.{usage_line, no_file_line, not_built_line}
use Rattle.sl_tool.specs.Answer.{answer_of, answer_to, answer_to_files, answer_to_verdict, answer_to_program, answer_to_plain, rejected, line_of_broken}

module _ (words : List (List ℕ)) (files : Contents) (verdict : Verdict) (input : List ℕ) where
  -- words with no command
  pub answer_usage : command_of words ≡ None → answer_of words files verdict input ≡ rejected status.Usage usage_line files input
  unfolding answer_of
  answer_usage none = ap (λ command. answer_to command files verdict input) none

  module _ (command : Command) (reads : command_of words ≡ Some command) where
    -- a file that isn't there
    pub answer_no_file : (name : List ℕ) → sources_of files (files_of command) ≡ Err name → answer_of words files verdict input ≡ rejected status.NoFile (no_file_line name) files input
    unfolding answer_of
    answer_no_file name none = ap (λ command. answer_to command files verdict input) reads ∙ ap (λ found. answer_to_files command found verdict files input) none

    module _ (sources : List SourceFile) (there : sources_of files (files_of command) ≡ Ok sources) where
      -- sources from which this comes
      answer_found : answer_of words files verdict input ≡ answer_to_verdict command verdict files input
      unfolding answer_of
      answer_found = ap (λ command. answer_to command files verdict input) reads ∙ ap (λ found. answer_to_files command found verdict files input) there

      -- sources of which one breaks a rule
      pub answer_broken : (source : SourceFile) (broken : Broken) → verdict ≡ Breaks source broken → answer_of words files verdict input ≡ rejected status.Broken (line_of_broken source broken) files input
      answer_broken source broken is = answer_found ∙ ap (λ verdict. answer_to_verdict command verdict files input) is

      module _ (trees : List File) (are : verdict ≡ Trees trees) where
        -- sources that have trees
        answer_accepted : answer_of words files verdict input ≡ answer_to_program command (program_of trees) files input
        answer_accepted = answer_found ∙ ap (λ verdict. answer_to_verdict command verdict files input) are

        -- which aren't one plain tree
        pub answer_not_built : program_of trees ≡ None → answer_of words files verdict input ≡ rejected status.NotBuilt not_built_line files input
        answer_not_built none = answer_accepted ∙ ap (λ program. answer_to_program command program files input) none

        -- which are one plain tree
        pub answer_plain : (program : Plain) → program_of trees ≡ Some program → answer_of words files verdict input ≡ answer_to_plain command program files input
        answer_plain program some = answer_accepted ∙ ap (λ program. answer_to_program command program files input) some
