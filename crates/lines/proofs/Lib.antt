mod BlockText
mod Answers
