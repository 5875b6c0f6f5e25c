use Rattle.cli_text.proofs.OneCheck.{one_job}
use Rattle.cli_text.proofs.check_words.check_words_name_one.Goals as goal

pub returns : goal.returns
returns c = one_job
