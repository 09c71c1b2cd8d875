mod Messages
mod Fronts
mod Ends
mod Turns
mod Steps
mod Standings
mod OneSession
mod Begun
