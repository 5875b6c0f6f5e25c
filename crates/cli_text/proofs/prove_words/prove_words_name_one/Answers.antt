use Rattle.cli_text.proofs.OneProve.{one_job}
use Rattle.cli_text.proofs.prove_words.prove_words_name_one.Goals as goal

pub returns : goal.returns
returns c = one_job
