use Rattle.serve_command.specs.declared.job.DomainName.TheVariants.{Interval, Octagon, ListSeg, IntervalListSeg, OctagonListSeg, Shapes, IntervalShapes, OctagonShapes}
use Rattle.serve_output.proofs.domains.named_domains_are_sound.Goals as goal

pub returns-clause-moments : goal.returns-clause-moments
returns-clause-moments c Interval = c.domain_is_sound.ensures.moments (record {})
returns-clause-moments c Octagon = c.domain_is_sound-2.ensures.moments (record {})
returns-clause-moments c ListSeg = c.domain_is_sound-3.ensures.moments (record {})
returns-clause-moments c IntervalListSeg = c.domain_is_sound-4.ensures.moments (record { first = record {}; second = record {} })
returns-clause-moments c OctagonListSeg = c.domain_is_sound-5.ensures.moments (record { first = record {}; second = record {} })
returns-clause-moments c Shapes = c.domain_is_sound-6.ensures.moments (record {})
returns-clause-moments c IntervalShapes = c.domain_is_sound-7.ensures.moments (record { first = record {}; second = record {} })
returns-clause-moments c OctagonShapes = c.domain_is_sound-8.ensures.moments (record { first = record {}; second = record {} })

pub returns-clause-reports : goal.returns-clause-reports
returns-clause-reports c Interval = c.domain_is_sound.ensures.reports (record {})
returns-clause-reports c Octagon = c.domain_is_sound-2.ensures.reports (record {})
returns-clause-reports c ListSeg = c.domain_is_sound-3.ensures.reports (record {})
returns-clause-reports c IntervalListSeg = c.domain_is_sound-4.ensures.reports (record { first = record {}; second = record {} })
returns-clause-reports c OctagonListSeg = c.domain_is_sound-5.ensures.reports (record { first = record {}; second = record {} })
returns-clause-reports c Shapes = c.domain_is_sound-6.ensures.reports (record {})
returns-clause-reports c IntervalShapes = c.domain_is_sound-7.ensures.reports (record { first = record {}; second = record {} })
returns-clause-reports c OctagonShapes = c.domain_is_sound-8.ensures.reports (record { first = record {}; second = record {} })
