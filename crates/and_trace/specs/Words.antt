-- Words of the trace: what is written for each.
use Rattle.std.specs.Prelude.{ℕ, List, ◌++◌, codes}
use Rattle.std.specs.Fmt.{decimal}
use Rattle.and_trace.specs.declared.word.Key.{Key}
use Rattle.and_trace.specs.declared.word.Key.TheVariants as keys
use Rattle.and_trace.specs.declared.word.Word.{Word}
use Rattle.and_trace.specs.declared.word.Word.TheVariants.{Text, Number, AtHost, AtGate, HostWorker, HostCoproc, GateWorker}

-- a word of the format
unfoldable pub key_text : Key → List ℕ
key_text keys.Append = codes "append"
key_text keys.Review = codes "review"
key_text keys.Hold = codes "hold"
key_text keys.Free = codes "free"
key_text keys.Wait = codes "wait"
key_text keys.Blackout = codes "blackout"
key_text keys.Resume = codes "resume"
key_text keys.Finish = codes "finish"
key_text keys.Inject = codes "inject"
key_text keys.Announce = codes "announce"
key_text keys.Installed = codes "installed"
key_text keys.Take = codes "take"
key_text keys.Egress = codes "egress"
key_text keys.Sealed = codes "sealed"
key_text keys.Route = codes "route"
key_text keys.Redirect = codes "redirect"
key_text keys.Ingress = codes "ingress"
key_text keys.Unpin = codes "unpin"
key_text keys.Queued = codes "queued"
key_text keys.Full = codes "full"
key_text keys.Hops = codes "hops"
key_text keys.Out = codes "out"
key_text keys.Wire = codes "wire"
key_text keys.Seal = codes "seal"
key_text keys.Fast = codes "fast"
key_text keys.Slow = codes "slow"
key_text keys.NoVm = codes "novm"
key_text keys.Spoofed = codes "spoofed"
key_text keys.Denied = codes "denied"
key_text keys.Allow = codes "allow"
key_text keys.Implied = codes "implied"
key_text keys.Rule = codes "rule"
key_text keys.Plain = codes "plain"
key_text keys.Offload = codes "offload"
key_text keys.Hover = codes "hover"
key_text keys.Drop = codes "drop"
key_text keys.NoOwner = codes "noowner"
key_text keys.Send = codes "send"
key_text keys.Vm = codes "vm"
key_text keys.Running = codes "running"
key_text keys.Deliver = codes "deliver"
key_text keys.Hairpin = codes "hairpin"
key_text keys.Absent = codes "absent"

-- numbers are decimal, without leading zeros; nodes are h3 and g0, who acts there h3.w1, h3.c and g0.w
unfoldable pub spelling : Word → List ℕ
spelling (Text k) = key_text k
spelling (Number n) = decimal n
spelling (AtHost host) = codes "h" ++ decimal host
spelling (AtGate gate) = codes "g" ++ decimal gate
spelling (HostWorker host index) = codes "h" ++ decimal host ++ codes ".w" ++ decimal index
spelling (HostCoproc host) = codes "h" ++ decimal host ++ codes ".c"
spelling (GateWorker gate) = codes "g" ++ decimal gate ++ codes ".w"
