use Rattle.orca_cues.proofs.Printed.{script_printed, script_read, script2_read}
use Rattle.orca_cues.proofs.laws.script_laws.Goals as goal

pub returns : goal.returns
returns c = record { printed = script_printed; reads_back = script_read; format_2 = script2_read }
