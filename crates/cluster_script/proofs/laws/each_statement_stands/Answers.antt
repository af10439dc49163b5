use Rattle.cluster_script.specs.declared.statement.Statement.TheVariants as lines
use Rattle.cluster_script.proofs.LanguageLaws.{statement-stands}
use Rattle.cluster_script.proofs.laws.each_statement_stands.Goals as goal

pub returns : goal.returns
returns c = record {
  stands = statement-stands;
  joined = λ before rest node script. (statement-stands before rest (lines.Join node) script).2;
  sessions = λ before rest session node script. (statement-stands before rest (lines.Session session node) script).1;
}
