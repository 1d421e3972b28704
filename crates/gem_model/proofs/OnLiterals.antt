-- What an answer unfolds to compute the definitions at a literal text of lines.
use Rattle.std.specs.Prelude.{⊤}
use Rattle.std.specs.Fmt.{digits}
use Rattle.hex.specs.Hex.{encode_with}
use Rattle.hsms_frame.specs.Spelling.{header_bytes, message_bytes}
use Rattle.line_grammar.specs.Reading.{end_at, literal_at, before_space, from_space, digits_at, number_at, run_at, pairs_at, hex_at, feed_line_of}
use Rattle.line_grammar.specs.Lines.{service_words, access_words, job_word, job_words, control_job_words, up_words, clear_words, lost_words, operator_words, placed_line, removed_line, done_line, failed_line, down_line, skipped_line, comment_line, moment_line, hex_line, operator_line, signal_line, watch_line, common_lines, link_lines, feed_lines}
use Rattle.item_model.specs.Reading.{format_at, length_at, leaf, body_at, leaf_at, list_at, item_at}

unfoldable pub feed_on_literals : ⊤
unfolding digits encode_with end_at literal_at before_space from_space digits_at number_at run_at pairs_at hex_at feed_line_of service_words access_words job_word job_words control_job_words up_words clear_words lost_words operator_words placed_line removed_line done_line failed_line down_line skipped_line comment_line moment_line hex_line operator_line signal_line watch_line common_lines link_lines feed_lines header_bytes message_bytes format_at length_at leaf body_at leaf_at list_at item_at
feed_on_literals = tt
