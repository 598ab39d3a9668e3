use Rattle.and_events.specs.declared.event.Actor.TheVariants.{HostInstall, GateInstall, Worker, Coproc, Gateway, Controller, Driver}
use Rattle.and_replay.proofs.Others.{coprocs_last, gate_batches_last, gates_last, host_batches_last, hosts_last, hovers_last, workers_last}
use Rattle.and_replay.proofs.run.act.Goals as goal

pub returns-in_ok-install_host-in-HostInstall-clause-parts : goal.returns-in_ok-install_host-in-HostInstall-clause-parts
returns-in_ok-install_host-in-HostInstall-clause-parts g c =
    let b = c.args.book.now in
    let p = c.args.parts.now in
    let was = c.requires.parts in
    let new = c.install_host.new.book in
    let did = c.in_ok-install_host-in-HostInstall.ensures in
    let a = HostInstall c.in-HostInstall.host in
    let sound = c.is_run-in-HostInstall.ensures.sound in
    let run = c.is_run-in-HostInstall.ensures.run in
    record {
      hosts = did.hosts;
      gates = gates_last b new a did.adds sound run p.gates.items (λ n e. cc) was.gates;
      host_batches = did.batches;
      gate_batches = gate_batches_last b new a did.adds sound run p.gate_batches.items (λ n e. cc) was.gate_batches;
      workers = workers_last b new a did.adds sound run p.workers.items (λ n m e. cc) was.workers;
      coprocs = coprocs_last b new a did.adds sound run p.coprocs.items (λ n e. cc) was.coprocs;
      hovers = hovers_last b new a did.adds sound run p.hovers.items (λ n e. cc) was.hovers;
    }

pub returns-in_ok-install_gate-in-GateInstall-clause-parts : goal.returns-in_ok-install_gate-in-GateInstall-clause-parts
returns-in_ok-install_gate-in-GateInstall-clause-parts g c =
    let b = c.args.book.now in
    let p = c.args.parts.now in
    let was = c.requires.parts in
    let new = c.install_gate.new.book in
    let did = c.in_ok-install_gate-in-GateInstall.ensures in
    let a = GateInstall c.in-GateInstall.gateway in
    let sound = c.is_run-in-GateInstall.ensures.sound in
    let run = c.is_run-in-GateInstall.ensures.run in
    record {
      hosts = hosts_last b new a did.adds sound run p.hosts.items (λ n e. cc) was.hosts;
      gates = did.gates;
      host_batches = host_batches_last b new a did.adds sound run p.host_batches.items (λ n e. cc) was.host_batches;
      gate_batches = did.batches;
      workers = workers_last b new a did.adds sound run p.workers.items (λ n m e. cc) was.workers;
      coprocs = coprocs_last b new a did.adds sound run p.coprocs.items (λ n e. cc) was.coprocs;
      hovers = hovers_last b new a did.adds sound run p.hovers.items (λ n e. cc) was.hovers;
    }

pub returns-in-Worker-clause-parts : goal.returns-in-Worker-clause-parts
returns-in-Worker-clause-parts g c =
    let b = c.args.book.now in
    let p = c.args.parts.now in
    let was = c.requires.parts in
    let new = c.work_at.new.book in
    let did = c.work_at.ensures in
    let a = Worker c.in-Worker.host c.in-Worker.index in
    let sound = c.is_run-in-Worker.ensures.sound in
    let run = c.is_run-in-Worker.ensures.run in
    record {
      hosts = hosts_last b new a did.adds sound run p.hosts.items (λ n e. cc) was.hosts;
      gates = gates_last b new a did.adds sound run p.gates.items (λ n e. cc) was.gates;
      host_batches = host_batches_last b new a did.adds sound run p.host_batches.items (λ n e. cc) was.host_batches;
      gate_batches = gate_batches_last b new a did.adds sound run p.gate_batches.items (λ n e. cc) was.gate_batches;
      workers = did.workers;
      coprocs = coprocs_last b new a did.adds sound run p.coprocs.items (λ n e. cc) was.coprocs;
      hovers = hovers_last b new a did.adds sound run p.hovers.items (λ n e. cc) was.hovers;
    }

pub returns-in-Coproc-clause-parts : goal.returns-in-Coproc-clause-parts
returns-in-Coproc-clause-parts g c =
    let b = c.args.book.now in
    let p = c.args.parts.now in
    let was = c.requires.parts in
    let new = c.seal_at.new.book in
    let did = c.seal_at.ensures in
    let a = Coproc c.in-Coproc.host in
    let sound = c.is_run-in-Coproc.ensures.sound in
    let run = c.is_run-in-Coproc.ensures.run in
    record {
      hosts = hosts_last b new a did.adds sound run p.hosts.items (λ n e. cc) was.hosts;
      gates = gates_last b new a did.adds sound run p.gates.items (λ n e. cc) was.gates;
      host_batches = host_batches_last b new a did.adds sound run p.host_batches.items (λ n e. cc) was.host_batches;
      gate_batches = gate_batches_last b new a did.adds sound run p.gate_batches.items (λ n e. cc) was.gate_batches;
      workers = workers_last b new a did.adds sound run p.workers.items (λ n m e. cc) was.workers;
      coprocs = did.coprocs;
      hovers = hovers_last b new a did.adds sound run p.hovers.items (λ n e. cc) was.hovers;
    }

pub returns-in-Gateway-clause-parts : goal.returns-in-Gateway-clause-parts
returns-in-Gateway-clause-parts g c =
    let b = c.args.book.now in
    let p = c.args.parts.now in
    let was = c.requires.parts in
    let new = c.pass_at.new.book in
    let did = c.pass_at.ensures in
    let a = Gateway c.in-Gateway.gateway in
    let sound = c.is_run-in-Gateway.ensures.sound in
    let run = c.is_run-in-Gateway.ensures.run in
    record {
      hosts = hosts_last b new a did.adds sound run p.hosts.items (λ n e. cc) was.hosts;
      gates = gates_last b new a did.adds sound run p.gates.items (λ n e. cc) was.gates;
      host_batches = host_batches_last b new a did.adds sound run p.host_batches.items (λ n e. cc) was.host_batches;
      gate_batches = gate_batches_last b new a did.adds sound run p.gate_batches.items (λ n e. cc) was.gate_batches;
      workers = workers_last b new a did.adds sound run p.workers.items (λ n m e. cc) was.workers;
      coprocs = coprocs_last b new a did.adds sound run p.coprocs.items (λ n e. cc) was.coprocs;
      hovers = did.hovers;
    }

pub returns-in_ok-drive-in-Driver-clause-parts : goal.returns-in_ok-drive-in-Driver-clause-parts
returns-in_ok-drive-in-Driver-clause-parts g c =
    let b = c.args.book.now in
    let p = c.args.parts.now in
    let was = c.requires.parts in
    let new = c.drive.new.book in
    let did = c.in_ok-drive-in-Driver.ensures in
    let sound = c.is_run-in-Driver.ensures.sound in
    let run = c.is_run-in-Driver.ensures.run in
    record {
      hosts = hosts_last b new Driver did.adds sound run p.hosts.items (λ n e. cc) was.hosts;
      gates = gates_last b new Driver did.adds sound run p.gates.items (λ n e. cc) was.gates;
      host_batches = host_batches_last b new Driver did.adds sound run p.host_batches.items (λ n e. cc) was.host_batches;
      gate_batches = gate_batches_last b new Driver did.adds sound run p.gate_batches.items (λ n e. cc) was.gate_batches;
      workers = workers_last b new Driver did.adds sound run p.workers.items (λ n m e. cc) was.workers;
      coprocs = coprocs_last b new Driver did.adds sound run p.coprocs.items (λ n e. cc) was.coprocs;
      hovers = hovers_last b new Driver did.adds sound run p.hovers.items (λ n e. cc) was.hovers;
    }

pub returns-in_ok-unpin-in-Controller-clause-parts : goal.returns-in_ok-unpin-in-Controller-clause-parts
returns-in_ok-unpin-in-Controller-clause-parts g c =
    let b = c.args.book.now in
    let p = c.args.parts.now in
    let was = c.requires.parts in
    let new = c.unpin.new.book in
    let did = c.in_ok-unpin-in-Controller.ensures in
    let sound = c.is_run-in-Controller.ensures.sound in
    let run = c.is_run-in-Controller.ensures.run in
    record {
      hosts = hosts_last b new Controller did.adds sound run p.hosts.items (λ n e. cc) was.hosts;
      gates = gates_last b new Controller did.adds sound run p.gates.items (λ n e. cc) was.gates;
      host_batches = host_batches_last b new Controller did.adds sound run p.host_batches.items (λ n e. cc) was.host_batches;
      gate_batches = gate_batches_last b new Controller did.adds sound run p.gate_batches.items (λ n e. cc) was.gate_batches;
      workers = workers_last b new Controller did.adds sound run p.workers.items (λ n m e. cc) was.workers;
      coprocs = coprocs_last b new Controller did.adds sound run p.coprocs.items (λ n e. cc) was.coprocs;
      hovers = hovers_last b new Controller did.adds sound run p.hovers.items (λ n e. cc) was.hovers;
    }
