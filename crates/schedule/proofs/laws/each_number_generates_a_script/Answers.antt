use Rattle.schedule.proofs.GeneratedLaws.{generated-script, generated-read, generated-count}
use Rattle.schedule.proofs.laws.each_number_generates_a_script.Goals as goal

pub returns : goal.returns
returns c = record { script = generated-script; text = generated-read; requests = generated-count }
