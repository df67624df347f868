-- Reply: the definition of the answer to a text. ReplyLaws: its laws.
pub mod Reply
pub mod ReplyLaws
