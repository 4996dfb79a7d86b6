-- What a proof unfolds to compute what a command line that is written out asks for, or why it is refused.
use Rattle.std.specs.Prelude.{⊤}
use Rattle.clap.proofs.OnLiterals.{clap_on_literals}
use Rattle.conode_words.specs.Commands.{adapt_command, check_command, compare_command, conode_command, convert_command, decode_command, explain_command, lint_command, lint_of_sheets, loop_command, replay_command, show_command, stats_command}
use Rattle.conode_words.specs.Choices.{colours_for, colours_of, format_for, format_of, lines_as_for, lines_as_of, log_form_for, log_form_of, mode_for, mode_of, report_as_for, report_as_of, shown_as, shown_for, stamps_for, stamps_of, zeros_for, zeros_of}
use Rattle.conode_words.specs.Tasks.{asked_adapt, asked_check, asked_compare, asked_convert, asked_decode, asked_device, asked_dictionary, asked_explain, asked_explain_of, asked_in, asked_lines, asked_lint, asked_lint_of, asked_loop, asked_of, asked_other, asked_replay, asked_rooms, asked_show, asked_stats, asked_stats_of, asked_timing, asks_document_for_lines, has_other_word, is_other, is_other_compare, is_other_explain, is_other_lint, is_other_stats, is_used, number_for, number_of_bits, task_fault, word_fault, words_for}

unfoldable pub words_on_literals : ⊤
unfolding clap_on_literals adapt_command check_command compare_command conode_command convert_command decode_command explain_command lint_command lint_of_sheets loop_command replay_command show_command stats_command asked_adapt asked_check asked_compare asked_convert asked_decode asked_device asked_dictionary asked_explain asked_explain_of asked_in asked_lines asked_lint asked_lint_of asked_loop asked_of asked_other asked_replay asked_rooms asked_show asked_stats asked_stats_of asked_timing asks_document_for_lines colours_for colours_of format_for format_of has_other_word is_other is_other_compare is_other_explain is_other_lint is_other_stats is_used lines_as_for lines_as_of log_form_for log_form_of mode_for mode_of number_for number_of_bits report_as_for report_as_of shown_as shown_for stamps_for stamps_of task_fault word_fault words_for zeros_for zeros_of
words_on_literals = tt
