use Rattle.job_files.specs.{declared.whole_files.FileKind.TheVariants.Weapons, Lengths.bytes_in}
use Rattle.job_files.proofs.CheckLemmas.{weapons_length, unread, checked}
use Rattle.job_files.proofs.texts.load_layers.Goals as goal

pub returns-in_err-bytes-clause-answers : goal.returns-in_err-bytes-clause-answers
returns-in_err-bytes-clause-answers g c files holds = unread (bytes_in Weapons) c.args.name.now files weapons_length (c.read_named.ensures.answers files holds) c.in_err-bytes.was c.from_residual.ensures.1

pub returns-clause-answers : goal.returns-clause-answers
returns-clause-answers g c files holds = checked (bytes_in Weapons) c.args.name.now files weapons_length (c.in_ok-bytes.ensures.answers files holds).ok c.deref.ensures.value c.check_layers.ensures.answers
