use Rattle.and_policy.proofs.index.Index.append.Goals as goal

pub returns : goal.returns
returns c = λ hosts k fit is.
    record {
      nets = c.note_net.ensures hosts k fit is.nets;
      rules = c.note_rule.ensures hosts k fit is.rules;
      routes = c.note_route.ensures hosts k fit is.routes;
      register = c.append.ensures hosts k fit is.register;
    }
