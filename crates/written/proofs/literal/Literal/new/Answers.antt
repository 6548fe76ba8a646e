use Rattle.json_text.specs.Bytes.{pick}
use Rattle.jer.specs.Octets.{hex_digit}
use Rattle.jer.specs.Table.{same_bytes}
use Rattle.jer.specs.Write.{escaped}
use Rattle.written.proofs.LiteralLaws.{literal_of, table-literal}
use Rattle.written.proofs.literal.Literal.new.Goals as goal

-- One computed test: each entry of the table.
pub invariant_of-result : goal.invariant_of-result
unfolding literal_of escaped pick same_bytes hex_digit
invariant_of-result c = record { right = table-literal }
