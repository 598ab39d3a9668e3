-- Network and address of a VM.
use Rattle.and_policy.specs.declared.plain.vms.Home.{Home}
use Rattle.and_policy.specs.Logs.{Vm}

abbrev pub home_of : Vm → Home
home_of v = record { net = v.net; ip = v.ip }
