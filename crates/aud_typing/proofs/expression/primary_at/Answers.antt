use Rattle.std.proofs.Common.{sym}
use Rattle.aud_typing.proofs.Opened.{name_begins, attribute_begins}
use Rattle.aud_typing.proofs.expression.primary_at.Goals as goal

pub returns-in-Name : goal.returns-in-Name
returns-in-Name c = rw (c.in-Name.is, c.deref.ensures) (sym (name_begins c.in-Name.name.value))

pub returns-in-Attribute : goal.returns-in-Attribute
returns-in-Attribute c = rw (c.in-Attribute.is, c.deref-in-Attribute.ensures) (sym (attribute_begins c.in-Attribute.prefix c.in-Attribute.field-1 c.in-Attribute.field-2))
